-- A control that is a setting: the place's row is written.
use Prim.Native.Nat.{ℕ, zero, suc, ◌*◌, ◌+◌, ◌≤◌, ◌<◌}
use mathlib.Core.Path.{◌≡◌, refl, sym, ap, ◌∙◌}
use mathlib.Core.Bool.{Bool}
use mathlib.Core.List.{List, [], ◌∷◌}
use mathlib.Core.Option.{Option, none, some}
use native.Mathlib.Omega.{arith}
use lib.Dec.{eqb}
use Rattle.occurrences.specs.Count.{bit}
use Rattle.kinds.specs.declared.Answer.TheVariants.{Controlled}
use Rattle.kinds.specs.declared.Control.{Control}
use Rattle.kinds.specs.declared.Control.TheVariants.{Timeout, Verify, Abort, Extended, Typed, Keep}
use Rattle.kinds.specs.contracts.Control as control
use Rattle.rules.specs.Limits.{files, places}
use Rattle.rules.specs.State.{Acc, Built, built}
use Rattle.rules.specs.Requests.{acc_at, with_accs, alter, alter_acc, is_writer}
use Rattle.rules.specs.Reply.{Out, answering}
use Rattle.rules.specs.Controls.{set_timeout, set_extended, set_typed, set_keep}
use Rattle.rules.specs.Calls.{ask}
use Rattle.rules.specs.Calls as calls
use Rattle.rules.specs.Desk.{Desk, on, file_of, answered}
use Rattle.rules.specs.Allocation.{Alloc, place_of}
use Rattle.segment.specs.declared.PlaceRow.{PlaceRow}
use Rattle.segment.specs.Layout.{place_row_at}
use Rattle.segment.specs.Table.{fill}
use Rattle.segment.specs.Fields.{place_words, spared, file_at, place_at, place_row_of}
use Rattle.laws.specs.Changes.{Mild}
use Rattle.memory.specs.Memories.{Memories, memories}
use Rattle.memory.specs.Image as image
use Rattle.words.specs.Word.{Bytes}
use Rattle.memory.specs.Fine.{Fine, StandsFor}
use Rattle.midst.specs.File.{file_of_row}
use Rattle.midst.specs.Mid.{Mid, start}
use Rattle.midst.specs.Outcome.{refusal_of, Done}
use Rattle.midst.proofs.Begins.{mid-begin, mid-place}
use Rattle.midst.proofs.Rows.{mid-mild}
use Rattle.midst.proofs.Changes.{mid-below}
use Rattle.midst.proofs.Walks.{fine-walks}
use Rattle.midst.proofs.EndsUnwritten.{Rowed, rowed-place}
use Rattle.midst.proofs.Accepted.{accepted-timeout, accepted-verify, accepted-extended, accepted-typed, accepted-keep}
use Rattle.controls.specs.Changed.{changed_row}
use Rattle.controls.proofs.Unsettled.{begins-rowed, stays-done}

-- a parameter that is 0 or 1
switch : (v : ℕ) → v ≤ 1 → v ≡ bit (eqb v 1)
switch zero h = refl
switch (suc zero) h = refl
switch (suc (suc v)) h = absurd (omega arith)

-- the settings leave side and request as they are
mild-timeout : (v : ℕ) → Mild (set_timeout v)
unfolding Mild is_writer set_timeout
mild-timeout v a = (refl, refl, refl, refl)

mild-same : Mild (λ a. a)
unfolding Mild is_writer
mild-same a = (refl, refl, refl, refl)

mild-extended : (v : Bool) → Mild (set_extended v)
unfolding Mild is_writer set_extended
mild-extended v a = (refl, refl, refl, refl)

mild-typed : (v : Bool) → Mild (set_typed v)
unfolding Mild is_writer set_typed
mild-typed v a = (refl, refl, refl, refl)

mild-keep : (v : Bool) → Mild (set_keep v)
unfolding Mild is_writer set_keep
mild-keep v a = (refl, refl, refl, refl)

-- the row of an accessor is that of the accessor as set
abbrev Sets : Control → (Acc → Acc) → Type 0
Sets c g = (a : Acc) → spared (place_words (changed_row c (place_row_of (image.place_words (some a))))) ≡ image.place_words (some (g a))

row-timeout : (v : ℕ) → Sets (Timeout v) (set_timeout v)
unfolding place_words changed_row place_row_of image.place_words set_timeout
row-timeout v a = refl

row-verify : (v : ℕ) → Sets (Verify v) (λ a. a)
unfolding place_words changed_row place_row_of image.place_words
row-verify v a = refl

-- verify writes the row again as it was
alter-same : (l : List (Option Acc)) (p : ℕ) → alter (λ a. a) l p ≡ l
unfolding alter
alter-same [] p = refl
alter-same (none ∷ l) zero = refl
alter-same (some a ∷ l) zero = refl
alter-same (none ∷ l) (suc p) = ap (λ (t : List (Option Acc)). none ∷ t) (alter-same l p)
alter-same (some a ∷ l) (suc p) = ap (λ (t : List (Option Acc)). some a ∷ t) (alter-same l p)

set_same : (p : ℕ) (b : Built) → answering Controlled b ≡ answering Controlled (alter_acc p (λ a. a) b)
unfolding alter_acc with_accs
set_same p b = ap (λ (l : List (Option Acc)). answering Controlled (with_accs l b)) (sym (alter-same b.accs p))

row-extended : (v : ℕ) → v ≤ 1 → Sets (Extended v) (set_extended (eqb v 1))
unfolding place_words changed_row place_row_of image.place_words set_extended
row-extended v h a = rw (← switch v h)

row_typed : (v : ℕ) → v ≤ 1 → Sets (Typed v) (set_typed (eqb v 1))
unfolding place_words changed_row place_row_of image.place_words set_typed
row_typed v h a = rw (← switch v h)

row_keep : (v : ℕ) → v ≤ 1 → Sets (Keep v) (set_keep (eqb v 1))
unfolding place_words changed_row place_row_of image.place_words set_keep
row_keep v h a = rw (← switch v h)

-- the file's row is the same
alter-rowed : (xs : List ℕ) (f p : ℕ) (g : Acc → Acc) (b : Built) → Rowed xs f b → Rowed xs f (alter_acc p g b)
unfolding alter_acc with_accs image.file_words
alter-rowed xs f p g b e = e

-- the segment after the setting is written
abbrev pub written : Control → ℕ → ℕ → List ℕ → List ℕ
written c f p xs = fill xs (place_row_at (places * f + p)) (place_words (changed_row c (place_at xs (places * f + p))))

module _ {ms : Memories} {d : Desk} {s : Alloc} (S : StandsFor ms d s) (f p : ℕ) (bytes : Bytes ms.buffers) where
  setting : (c : Control) (g : Acc → Acc) (b : Built) (a : Acc) (out : Out) (xs' : List ℕ) → Mild g → Sets c g → f < files → file_of d f ≡ built b → acc_at b p ≡ some a
      → out ≡ answering Controlled (alter_acc p g b) → xs' ≡ written c f p ms.segment → Bytes xs' → Done f d s out ms (memories xs' ms.blocks ms.buffers) Controlled
  unfolding place_of
  setting c g b a out xs' m r h e k u v bs =
      let M : Mid Fine f (start d s ms) ms (file_of_row (file_at ms.segment f)) b = mid-begin S f b h e in
      let row : spared (place_words (changed_row c (place_at ms.segment (places * f + p)))) ≡ image.place_words (some (g a)) =
      ap (λ (y : PlaceRow). spared (place_words (changed_row c y))) (mid-place M p (mid-below M p a k) ∙ ap (λ z. place_row_of (image.place_words z)) k) ∙ r a
      in
      let N : Mid Fine f (start d s ms) (memories xs' ms.blocks ms.buffers) (file_of_row (file_at ms.segment f)) (alter_acc p g b) =
      rw v (mid-mild {J = Fine} M p g a (changed_row c (place_at ms.segment (places * f + p))) m k (fine-walks.mild p g b m M.good) row)
      in
      stays-done S f xs' ms.buffers _ (alter_acc p g b) Controlled out u N
      (alter-rowed xs' f p g b (rw v (rowed-place ms.segment f (places * f + p) (place_words (changed_row c (place_at ms.segment (places * f + p)))) b h (begins-rowed S f b h e)))) bs bytes

  -- every control but the abort
  pub set-done : (c : Control) → ((v : ℕ) → c ≡ Abort v → ⊥) → refusal_of (answered d (on f (calls.control p (some c)))).reply ≡ 0
      → (xs' : List ℕ) → xs' ≡ written c f p ms.segment → Bytes xs' → Done f d s (ask (file_of d f) (calls.control p (some c))) ms (memories xs' ms.blocks ms.buffers) Controlled
  set-done (Timeout v) t r xs' e bs =
      let A = accepted-timeout d f p v r in
      setting (Timeout v) (set_timeout v) A.b A.known.a _ xs' (mild-timeout v) (row-timeout v) A.file A.stands A.known.at A.known.out e bs
  set-done (Verify v) t r xs' e bs =
      let A = accepted-verify d f p v r in
      setting (Verify v) (λ a. a) A.b A.known.a _ xs' mild-same (row-verify v) A.file A.stands A.known.at (A.known.out ∙ set_same p A.b) e bs
  set-done (Abort v) t r xs' e bs = absurd (t v refl)
  set-done (Extended v) t r xs' e bs =
      let A = accepted-extended d f p v r in
      setting (Extended v) (set_extended (eqb v 1)) A.b A.known.a _ xs' (mild-extended (eqb v 1)) (row-extended v A.known.low) A.file A.stands A.known.at A.known.out e bs
  set-done (Typed v) t r xs' e bs =
      let A = accepted-typed d f p v r in
      setting (Typed v) (set_typed (eqb v 1)) A.b A.known.a _ xs' (mild-typed (eqb v 1)) (row_typed v A.known.low) A.file A.stands A.known.at A.known.out e bs
  set-done (Keep v) t r xs' e bs =
      let A = accepted-keep d f p v r in
      setting (Keep v) (set_keep (eqb v 1)) A.b A.known.a _ xs' (mild-keep (eqb v 1)) (row_keep v A.known.low) A.file A.stands A.known.at A.known.out e bs
