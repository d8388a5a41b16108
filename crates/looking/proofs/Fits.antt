-- The part that look shows holds the bytes that the rules show.
use Prim.Native.Nat.{ℕ, zero, suc, ◌+◌, ◌*◌, ◌≤◌, ◌<◌}
use mathlib.Core.Path.{◌≡◌, refl, sym, ap, ◌∙◌}
use mathlib.Core.List.{List, [], ◌∷◌}
use mathlib.Core.Option.{Option, none, some}
use native.Mathlib.Omega.{arith}
use lib.Dec.{eqb}
use lib.ListN.{length, take, drop}
use lib.Seq.{take-take, drop-drop}
use Rattle.rules.specs.Limits.{files, share_bytes, buffer_bytes}
use Rattle.rules.specs.State.{Rec, Req, idle, reading, writing, read_done, write_done, Built, built}
use Rattle.rules.specs.Buffers.{lies}
use Rattle.rules.specs.Reply.{leaves}
use Rattle.rules.specs.Look.{oldest, look_file, look_req}
use Rattle.rules.specs.Desk.{Desk, look, file_of, respond, reply_bytes}
use Rattle.rules.specs.Allocation.{Alloc, place_of}
use Rattle.rules.proofs.Split.{by_cases}
use Rattle.shares.specs.Places as shares
use Rattle.laws.specs.Bounds.{Bounded}
use Rattle.laws.proofs.Bounds.{bounds-at}
use Rattle.laws.proofs.Room.{good-sized}
use Rattle.memory.specs.Memories.{Memories}
use Rattle.memory.specs.Fine.{StandsFor}
use Rattle.midst.proofs.Begins.{mid-begin}
use Rattle.transfers.proofs.Named.{Named, begin-mid}
use Rattle.transfers.proofs.Ports.{taken}
use Rattle.accessors.specs.declared.Accessor.{Accessor}
use Rattle.kinds.specs.declared.refusals.Refusal.{Refusal}
use Rattle.kinds.specs.Refusals.{number}
use Rattle.std.specs.Prelude.{Result}
use Rattle.accessors.specs.Accessors.{accessor_of}
use Rattle.promises.specs.Promise.{Standing, Seen, unsound, stands, reply_of}
use Rattle.promises.specs.Parts.{bytes_of, before, of_file, of_req, part_on, part_of}
use Rattle.looking.proofs.Oldest.{oldest-body}
use Rattle.looking.proofs.Looked.{Refuses, Looked, refused, writer, reader, looked}

-- n bytes of a part, starting at a place in it
inner : (n q k : ℕ) (l : List ℕ) → q + n ≤ k → take n (drop q (take k l)) ≡ take n (drop q l)
inner n zero k l h = take-take n k l (omega arith)
inner n (suc q) zero l h = absurd (omega arith)
inner n (suc q) (suc k) [] h = refl
inner n (suc q) (suc k) (x ∷ l) h = inner n q k l (omega arith)

within : (n a q k : ℕ) (l : List ℕ) → q + n ≤ k → take n (drop (a + q) l) ≡ take n (drop q (take k (drop a l)))
within n a q k l h = ap (take n) (sym (drop-drop q a l)) ∙ sym (inner n q k (drop a l) h)

module _ {m : Memories} {d : Desk} {s : Alloc} (S : StandsFor m d s) where
  module _ (f : ℕ) (h : f < files) (b : Built) (is : file_of d f ≡ built b) where
    -- the oldest data record
    file-fits : bytes_of (of_file f b) m.blocks m.buffers ≡ reply_bytes (look_file b).reply
    unfolding bytes_of of_file look_file leaves reply_bytes
    file-fits = go (oldest b.store.recs) refl
      where
        go : (o : Option Rec) → oldest b.store.recs ≡ o → bytes_of (of_file f b) m.blocks m.buffers ≡ reply_bytes (look_file b).reply
        go none e = rw (of_file, look_file, e)
        go (some r) e =
            let M = mid-begin S f b h is in
            let k = oldest-body b.geo b.store (good-sized b.geo M.good.room.geo) M.good.room.holds r e in
            let q : ℕ = shares.place_of b.geo b.store.share b.store.block (b.store.spent + before b.store.recs) + 6 in
            rw (of_file, look_file, e)
            (within (length r.body) (share_bytes * f) q share_bytes m.blocks k.0 ∙ (ap (λ (ys : List ℕ). take (length r.body) (drop q ys)) M.share ∙ k.1))

  -- what lies in a reader's buffer
  module _ {f p : ℕ} (N : Named d f p) where
    abbrev of-file : bytes_of (of_file f N.b) m.blocks m.buffers ≡ reply_bytes (look_file N.b).reply
    of-file = file-fits f N.file N.b N.stands

    req-fits : (q : Req) → N.a.req ≡ q → bytes_of (of_req f p q N.b) m.blocks m.buffers ≡ reply_bytes (look_req q N.b).reply
    unfolding bytes_of of_req look_req leaves reply_bytes lies Bounded
    req-fits idle e = of-file
    req-fits (reading q) e = of-file
    req-fits (writing q) e = of-file
    req-fits (read_done q) e =
        by_cases (eqb q.status 0)
        (λ z. rw (of_req, look_req, z)
        (sym (take-take (length q.bytes) buffer_bytes (drop (buffer_bytes * place_of f p) m.buffers) (bounds-at p N.a (read_done q) N.b N.at e (begin-mid S N refl).good.bounds).0)
        ∙ taken S N q.bytes (ap lies e)))
        (λ z. rw (of_req, look_req, z) of-file)
    req-fits (write_done q) e = of-file

  -- whoever looks
  pub fits : (f p : ℕ) → bytes_of (part_on d f p) m.blocks m.buffers ≡ reply_bytes (respond d (look f p)).reply
  unfolding bytes_of reply_bytes
  fits f p = go (accessor_of d f p) (looked d f p)
    where
      none-shown : (n : ℕ) → Refuses d f p n → bytes_of (part_on d f p) m.blocks m.buffers ≡ reply_bytes (respond d (look f p)).reply
      none-shown n R = rw (R.part, R.reply)

      go : (x : Result Accessor Refusal) → Looked d f p x → bytes_of (part_on d f p) m.blocks m.buffers ≡ reply_bytes (respond d (look f p)).reply
      go x (refused r R) = none-shown (number r) R
      go x (writer w q R) = none-shown 34 R
      go x (reader w q R) = rw (R.part, R.reply) (req-fits R.named R.named.a.req refl)

-- what is shown fits, whatever the memories are seen as
pub seen-fits : (m : Memories) (v : Option Standing) → Seen m v → (f p : ℕ)
    → bytes_of (part_of v f p) m.blocks m.buffers ≡ reply_bytes (reply_of v (look f p))
unfolding bytes_of part_on part_of reply_of reply_bytes
seen-fits m v (unsound e) f p = refl
seen-fits m v (stands d s S) f p = fits S f p
