-- A request that waits, and how it fails: with a status, and with nothing in its buffer.
use Prim.Native.Nat.{ℕ, ◌≤◌}
use mathlib.Core.Path.{◌≡◌, refl}
use mathlib.Core.Bool.{true, false}
use mathlib.Core.List.{[]}
use mathlib.Core.Option.{Option, none, some}
use native.Mathlib.Omega.{arith}
use Rattle.rules.specs.State.{Wanted, Offered, Req, idle, reading, writing, read_done, write_done, Acc, Built}
use Rattle.rules.specs.Requests.{acc_at, finish, read_fails, write_fails, fail_req, fail}
use Rattle.rules.specs.Buffers.{lies}
use Rattle.laws.specs.Outstanding.{req_of, req_at, waits_read, waits_write, uncollected, awaits}
use Rattle.laws.specs.Changes.{Ends, read_ends, write_ends}
use Rattle.laws.specs.Sides.{Fitting}
use Rattle.memory.specs.Image.{req_words}
use Rattle.midst.proofs.Terms.{waits_at}
use Rattle.timeouts.specs.Late.{late_words}
use Rattle.timeouts.specs.Stage.{Steady}
use Rattle.segment.specs.Fields.{entry_words}

pub record Ripe (p : ℕ) (b : Built) : Type 0 where
  pub acc : Acc
  pub at : acc_at b p ≡ some acc
  -- what its request becomes
  pub done : Req
  pub ends : Ends 22 acc.req done
  pub fails : fail p 22 b ≡ finish p 22 done b
  pub words : (i : ℕ) → req_words i done ≡ late_words i
  pub empty : lies done ≡ []
  pub over : uncollected done ≡ 1
  -- the request waits among those of its side
  pub waits : waits_at acc.writer acc.req ≡ 1

module _ (p : ℕ) (b : Built) (S : Steady b) where
  reads : (a : Acc) → acc_at b p ≡ some a → (w : Wanted) → a.req ≡ reading w → Ripe p b
  reads a e w r =
      let side : a.writer ≡ false = unfold Fitting in rw r at (S.sides p a e).request in
      let short : 0 ≤ w.limit = omega arith in
      let late : Ends 22 (reading w) (read_fails 22) = read_ends {x = w} refl short (omega arith) in
      record {
        acc = a;
        at = e;
        done = read_fails 22;
        ends = rw r late;
        fails = unfold fail in rw (e, fail) (unfold fail_req in rw (r, fail_req));
        words = λ i. unfold req_words late_words entry_words in refl;
        empty = unfold lies in refl;
        over = unfold uncollected in refl;
        waits = rw (side, r) (unfold waits_read in refl);
      }

  writes : (a : Acc) → acc_at b p ≡ some a → (w : Offered) → a.req ≡ writing w → Ripe p b
  writes a e w r =
      let side : a.writer ≡ true = unfold Fitting in rw r at (S.sides p a e).request in
      let late : Ends 22 (writing w) (write_fails 22) = write_ends {x = w} refl (omega arith) in
      record {
        acc = a;
        at = e;
        done = write_fails 22;
        ends = rw r late;
        fails = unfold fail in rw (e, fail) (unfold fail_req in rw (r, fail_req));
        words = λ i. unfold req_words late_words entry_words in refl;
        empty = unfold lies in refl;
        over = unfold uncollected in refl;
        waits = rw (side, r) (unfold waits_write in refl);
      }

  pub ripe : 1 ≤ awaits (req_at b.accs p) → Ripe p b
  ripe h = go (acc_at b p) refl (unfold acc_at in h)
    where
      none-waits : (q : Req) → awaits q ≡ 0 → 1 ≤ awaits q → ⊥
      none-waits q z k = omega arith

      by-request : (a : Acc) → acc_at b p ≡ some a → (q : Req) → a.req ≡ q → 1 ≤ awaits q → Ripe p b
      by-request a e idle r k = absurd (none-waits idle (unfold waits_read waits_write in refl) k)
      by-request a e (reading q) r k = reads a e q r
      by-request a e (writing q) r k = writes a e q r
      by-request a e (read_done q) r k = absurd (none-waits (read_done q) (unfold waits_read waits_write in refl) k)
      by-request a e (write_done q) r k = absurd (none-waits (write_done q) (unfold waits_read waits_write in refl) k)

      go : (o : Option Acc) → acc_at b p ≡ o → 1 ≤ awaits (req_of o) → Ripe p b
      go none e k = absurd (none-waits idle (unfold waits_read waits_write in refl) (unfold req_of in k))
      go (some a) e k = by-request a e a.req refl (unfold req_of in k)
