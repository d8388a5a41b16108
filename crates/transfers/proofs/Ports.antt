-- What the reply port of a place, and its record buffer, show of the request at the place.
use Prim.Native.Nat.{ℕ, ◌≤◌, ◌<◌}
use mathlib.Core.Path.{◌≡◌, refl, sym, ap, subst, ◌∙◌}
use mathlib.Core.Logic.{◌⊎◌, inl, inr}
use mathlib.Core.List.{List, [], ◌∷◌, map}
use mathlib.Core.Option.{Option}
use native.Mathlib.Omega.{arith}
use lib.ListN.{length, get_or, take}
use Rattle.rules.specs.Limits.{places, entries, buffer_bytes}
use Rattle.rules.specs.State.{Req, idle, reading, writing, read_done, write_done, Acc, Built, File}
use Rattle.rules.specs.Requests.{acc_at}
use Rattle.rules.specs.Memories.{buffer_at}
use Rattle.rules.specs.Reply.{status}
use Rattle.rules.specs.Transfer.{collected, collect}
use Rattle.rules.specs.Desk.{Desk}
use Rattle.rules.specs.Allocation.{Alloc, place_of, held_at, own_entry, port_of}
use Rattle.laws.specs.Outstanding.{uncollected, req_of}
use Rattle.laws.specs.Bounds.{least_refusal, Bounded}
use Rattle.laws.proofs.Bounds.{bounds-at}
use Rattle.laws.proofs.Happenings.{place-of-desk}
use Rattle.segment.specs.Layout.{desk_places, reply_port}
use Rattle.segment.specs.Table.{nth, data_of}
use Rattle.segment.specs.Fields.{entry_words, completed_request, entry_of, entry_at}
use Rattle.ports.specs.Lists.{Chain}
use Rattle.rules.specs.Buffers.{lies}
use Rattle.memory.specs.Memories.{Memories}
use Rattle.memory.specs.Image.{acc_of, req_words, list_of, port_words, box_of}
use Rattle.memory.specs.Fine.{StandsFor}
use Rattle.memory.proofs.Image.{place_acc-of, list_of-port, box_of-port}
use Rattle.memory.proofs.Frames.{lies-there}
use Rattle.midst.proofs.Changes.{fine-knows}
use Rattle.midst.proofs.Requests.{step-free-entry}
use Rattle.midst.proofs.Terms.{port-one}
use Rattle.transfers.proofs.Named.{Named, begin-mid}
use Rattle.transfers.proofs.Fits.{fit}

-- a completed request: its status and log, the bytes that it brings, and how these stand in the memories
pub record Completed (xs buffers : List ℕ) (f p : ℕ) (b : Built) (q : Req) : Type 0 where
  pub status : ℕ
  pub log : ℕ
  pub bytes : List ℕ
  pub ended : uncollected q ≡ 1
  pub rule : collect p q b ≡ collected status log bytes p b
  pub entry : entry_at xs (nth xs (reply_port (place_of f p)))
      ≡ completed_request (place_of f p) status log (length bytes)
  pub lie : take (length bytes) (buffer_at (place_of f p) buffers) ≡ bytes
  pub short : length bytes ≤ buffer_bytes
  pub low : status < least_refusal

-- a request that is outstanding waits, and the port is empty; or it is completed
abbrev pub Shows : List ℕ → List ℕ → ℕ → ℕ → Built → Req → Type 0
Shows xs buffers f p b q =
    ((entries ≤ nth xs (reply_port (place_of f p))) × (collect p q b ≡ status 6 1 b)) ⊎ ((nth xs (reply_port (place_of f p)) < entries) × Completed xs buffers f p b q)

module _ {ms : Memories} {d : Desk} {s : Alloc} {f p : ℕ} (S : StandsFor ms d s) (N : Named d f p) where
  abbrev i : ℕ
  i = place_of f p

  abbrev b : Built
  b = N.b

  abbrev a : Acc
  a = N.a

  open-place : p < places
  open-place = (fit S N).place

  under : place_of f p < desk_places
  under = place-of-desk f p N.file open-place

  port-list : list_of d s (reply_port i) ≡ port_of a.req i s
  unfolding acc_of req_of
  port-list =
      list_of-port d s i under ∙ ap (λ (o : Option Acc). port_of (req_of o) i s) (place_acc-of d f p open-place ∙ ap (λ (y : File). acc_of y p) N.stands ∙ N.at)

  port-box : box_of d s (reply_port i) ≡ port_words i a.req
  unfolding acc_of req_of
  port-box =
      box_of-port d s i under ∙ ap (λ (o : Option Acc). port_words i (req_of o)) (place_acc-of d f p open-place ∙ ap (λ (y : File). acc_of y p) N.stands ∙ N.at)

  port-chain : Chain ms.segment (reply_port i) (port_of a.req i s)
  port-chain = rw port-list at (S.stands.segment.chains (reply_port i) (omega (arith, under)))

  port-data : map (data_of ms.segment) (port_of a.req i s) ≡ port_words i a.req
  port-data = ap (map (data_of ms.segment)) (sym port-list) ∙ S.stands.segment.boxes (reply_port i) (omega (arith, under)) ∙ port-box

  -- what lies in its buffer
  pub taken : (v : List ℕ) → lies a.req ≡ v → take (length v) (buffer_at i ms.buffers) ≡ v
  unfolding acc_at req_of
  taken v e =
      let M = begin-mid S N refl in
      subst (λ (w : List ℕ). take (length w) (buffer_at i ms.buffers) ≡ w) (ap (λ (o : Option Acc). lies (req_of o)) N.at ∙ e)
      (lies-there f p ms.buffers b M.good.buffers M.buffer open-place)

  -- a completed request, whose port is not empty
  module _ (ended : uncollected a.req ≡ 1) where
    pub port-full : nth ms.segment (reply_port i) < entries
    port-full = step-free-entry fine-knows (begin-mid S N refl) p a N.at ended

    pub port-entry : entry_at ms.segment (nth ms.segment (reply_port i)) ≡ entry_of (req_words i a.req)
    unfolding Chain entry_at
    port-entry =
        let k = port-one i a.req s ended in
        let c : Chain ms.segment (reply_port i) (own_entry (held_at s i) ∷ []) = rw k.0 at port-chain in
        let m : map (data_of ms.segment) (own_entry (held_at s i) ∷ []) ≡ req_words i a.req ∷ [] = ap (map (data_of ms.segment)) (sym k.0) ∙ port-data ∙ k.1 in
        ap (λ (e : ℕ). entry_of (data_of ms.segment e)) c.0 ∙ ap (λ (l : List (List ℕ)). entry_of (get_or l 0 [])) m

  port-none : (q : Req) → a.req ≡ q → port_of q i s ≡ [] → entries ≤ nth ms.segment (reply_port i)
  unfolding Chain
  port-none q e k =
      let c : Chain ms.segment (reply_port i) [] = rw (ap (λ (r : Req). port_of r i s) e ∙ k) at port-chain in
      omega (arith, c)

  pub shows : (q : Req) → a.req ≡ q → (q ≡ idle → ⊥) → Shows ms.segment ms.buffers f p b q
  unfolding collect port_of req_words entry_of uncollected lies Bounded entry_words
  shows idle e n = absurd (n refl)
  shows (reading q) e n = inl (port-none (reading q) e refl, refl)
  shows (writing q) e n = inl (port-none (writing q) e refl, refl)
  shows (read_done q) e n =
      inr (
        port-full (ap uncollected e),
        record {
          status = q.status;
          log = q.log;
          bytes = q.bytes;
          ended = refl;
          rule = refl;
          entry = port-entry (ap uncollected e) ∙ ap (λ (r : Req). entry_of (req_words i r)) e;
          lie = taken q.bytes (ap lies e);
          short = (bounds-at p a (read_done q) b N.at e (begin-mid S N refl).good.bounds).0;
          low = (bounds-at p a (read_done q) b N.at e (begin-mid S N refl).good.bounds).1;
        },
      )
  shows (write_done q) e n =
      inr (
        port-full (ap uncollected e),
        record {
          status = q.status;
          log = q.log;
          bytes = [];
          ended = refl;
          rule = refl;
          entry = port-entry (ap uncollected e) ∙ ap (λ (r : Req). entry_of (req_words i r)) e;
          lie = refl;
          short = omega arith;
          low = bounds-at p a (write_done q) b N.at e (begin-mid S N refl).good.bounds;
        },
      )
