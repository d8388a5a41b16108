-- What look gives on a desk, by the accessor that it names: refused, or shown to a reader.
use Prim.Native.Nat.{ℕ, ◌+◌, ◌<◌}
use mathlib.Core.Path.{◌≡◌, refl, ap, ◌∙◌}
use mathlib.Core.Bool.{Bool, true, false}
use mathlib.Core.List.{[]}
use mathlib.Core.Option.{Option, none, some}
use lib.Dec.{ltb}
use borrow.Author.Tests.{ltb-true}
use Rattle.rules.specs.Limits.{files}
use Rattle.rules.specs.State.{Acc, Built, File, unbuilt, built}
use Rattle.rules.specs.Requests.{acc_at}
use Rattle.rules.specs.Reply.{shows, leaves, unmade}
use Rattle.rules.specs.Look as looking
use Rattle.rules.specs.Look.{look_req}
use Rattle.rules.specs.Calls.{refusal, ask_built, ask_unbuilt, ask, on_acc}
use Rattle.rules.specs.Calls as calls
use Rattle.rules.specs.Desk.{Desk, look, asked, file_of, answered, respond}
use Rattle.rules.proofs.Split.{by_cases}
use Rattle.kinds.specs.declared.Outstanding.{Outstanding}
use Rattle.accessors.specs.declared.Accessor.{Accessor}
use Rattle.kinds.specs.declared.refusals.Refusal.{Refusal}
use Rattle.kinds.specs.declared.refusals.Refusal.TheVariants as refusals
use Rattle.kinds.specs.Refusals.{number}
use Rattle.std.specs.Prelude.{Result, Err}
use Rattle.accessors.specs.Outstanding.{outstanding_of}
use Rattle.accessors.specs.Sides.{side_of}
use Rattle.accessors.specs.Accessors.{Open, accessor_in, accessor_on, accessor_of}
use Rattle.occurrences.specs.Count.{bit}
use Rattle.transfers.proofs.Named.{Named}
use Rattle.promises.specs.Parts.{nothing, of_req, of_reader, part_on}

-- refused with n
pub record Refuses (d : Desk) (f p n : ℕ) : Type 0 where
  pub part : part_on d f p ≡ nothing
  pub reply : (respond d (look f p)).reply ≡ shows n []

-- an open reader
pub record Reads (d : Desk) (f p : ℕ) (q : Outstanding) : Type 0 where
  pub named : Named d f p
  pub side : named.a.writer ≡ false
  pub request : outstanding_of named.a.req ≡ q
  pub part : part_on d f p ≡ of_req f p named.a.req named.b
  pub reply : (respond d (look f p)).reply ≡ (look_req named.a.req named.b).reply

-- by the accessor that f and p name; 34 to a writer
pub data Looked (d : Desk) (f p : ℕ) : Result Accessor Refusal → Type 0 where
  refused : (r : Refusal) → Refuses d f p (number r) → Looked d f p (Err r)
  writer : (w : ℕ) (q : Outstanding) → Refuses d f p 34 → Looked d f p (Open w 2 q)
  reader : (w : ℕ) (q : Outstanding) → Reads d f p q → Looked d f p (Open w 1 q)

module _ (d : Desk) (f p : ℕ) where
  by_place : f < files → (b : Built) → file_of d f ≡ built b → part_on d f p ≡ of_reader f p (built b) → (respond d (look f p)).reply ≡ (on_acc (calls.look p) p (λ a. looking.look a b) b).reply
      → (o : Option Acc) → acc_at b p ≡ o → Looked d f p (accessor_in b.geo.words o)
  unfolding of_reader on_acc looking.look refusal leaves accessor_in side_of
  by_place h b is e k none i = refused refusals.Accessor (record { part = e ∙ rw (of_reader, i); reply = k ∙ rw (on_acc, i) })
  by_place h b is e k (some a) i = go a.writer refl
    where
      go : (w : Bool) → a.writer ≡ w → Looked d f p (Open b.geo.words (1 + bit a.writer) (outstanding_of a.req))
      go true j = rw j (writer b.geo.words (outstanding_of a.req) (record { part = e ∙ rw (of_reader, i, j); reply = k ∙ rw (on_acc, i, looking.look, j) }))
      go false j =
          rw j (reader b.geo.words (outstanding_of a.req) (record {
            named = record { file = h; b = b; stands = is; a = a; at = i };
            side = j;
            request = refl;
            part = e ∙ rw (of_reader, i, j);
            reply = k ∙ rw (on_acc, i, looking.look, j);
          }))

  by-file : f < files → part_on d f p ≡ of_reader f p (file_of d f) → (respond d (look f p)).reply ≡ (ask (file_of d f) (calls.look p)).reply
      → (x : File) → file_of d f ≡ x → Looked d f p (accessor_on x p)
  unfolding of_reader ask ask_built ask_unbuilt refusal unmade accessor_on
  by-file h e k unbuilt i = refused refusals.File (record { part = e ∙ rw i; reply = k ∙ rw i })
  by-file h e k (built b) i = by_place h b i (e ∙ ap (of_reader f p) i) (k ∙ ap (λ x. (ask x (calls.look p)).reply) i) (acc_at b p) refl

  pub looked : Looked d f p (accessor_of d f p)
  unfolding accessor_of part_on respond asked answered refusal
  looked =
      by_cases (ltb f files)
      (λ t. rw (accessor_of, t) (by-file (ltb-true f files t) (rw (part_on, t)) (rw (answered, t)) (file_of d f) refl))
      (λ t. rw (accessor_of, t) (refused refusals.File (record { part = rw (part_on, t); reply = rw (answered, t) })))
