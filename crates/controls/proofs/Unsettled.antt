-- A call that settles nothing and writes no file's row does what the rules say.
use Prim.Native.Nat.{ℕ, ◌<◌}
use mathlib.Core.Path.{◌≡◌, refl, sym, ap, ◌∙◌, subst}
use mathlib.Core.List.{List}
use Rattle.kinds.specs.declared.Answer.{Answer}
use Rattle.rules.specs.Limits.{files}
use Rattle.rules.specs.State.{Built, built}
use Rattle.rules.specs.Reply.{Out, leaves, answering}
use Rattle.rules.specs.Desk.{Desk, file_of}
use Rattle.rules.specs.Allocation.{Alloc}
use Rattle.memory.specs.Memories.{Memories, memories}
use Rattle.memory.specs.Image.{file_words}
use Rattle.words.specs.Word.{Bytes}
use Rattle.memory.specs.Fine.{StandsFor}
use Rattle.memory.proofs.Segments.{segment-file}
use Rattle.midst.specs.declared.File as hand
use Rattle.midst.specs.Mid.{Mid, start}
use Rattle.midst.specs.Outcome.{Done}
use Rattle.midst.proofs.EndsUnwritten.{Rowed, mid-stay}

module _ {m : Memories} {d : Desk} {s : Alloc} (S : StandsFor m d s) (f : ℕ) where
  -- the row of a file that stands
  pub begins-rowed : (b : Built) → f < files → file_of d f ≡ built b → Rowed m.segment f b
  begins-rowed b h e = segment-file S.stands.segment f h ∙ ap file_words e

  pub stays-done : {I : Built → Type 0} (xs' buffers' : List ℕ) (x : hand.File) (c : Built) (a : Answer) (out : Out) → out ≡ answering a c
      → Mid I f (start d s m) (memories xs' m.blocks buffers') x c → Rowed xs' f c → Bytes xs' → Bytes buffers'
      → Done f d s out m (memories xs' m.blocks buffers') a
  unfolding answering leaves
  stays-done xs' buffers' x c a out e M r bs bf =
      subst (λ (y : Out). Done f d s y m (memories xs' m.blocks buffers') a) (sym e) (record {
        outcome = record { stands = mid-stay M r S.stands.bodies bs S.stands.bodies.blocks-bytes bf; apart = M.apart };
        reply = refl;
      })
