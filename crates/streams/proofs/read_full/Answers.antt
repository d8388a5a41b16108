use Rattle.std.proofs.Common.{◌≡◌, ℕ, ◌+◌, ◌≤◌, ◌++◌, List, length, take, arith, sym, ap, ◌∙◌, length-append, length-take-le}
use Rattle.std.proofs.Math.Seq.{take-append-add}
use Rattle.std.proofs.lemmas.List.{take-append-le}
use borrow.Rule.Slice.PartMut.{put_mid, post_of}
use Rattle.std.proofs.KnownBytes.{Consumes-trans}
use Rattle.streams.proofs.read_full.Goals as goal

-- what was read before, and what is read now
read_more : (done room n : ℕ) (bytes part : List ℕ) → done ≤ length bytes → n ≤ length part → take (done + n) (put_mid done room bytes part) ≡ take done bytes ++ take n part
read_more done room n bytes part h k =
    let after = post_of done room bytes in
    ap (λ d. take (d + n) (take done bytes ++ (part ++ after))) (sym (length-take-le done bytes h))
    ∙ take-append-add (take done bytes) (part ++ after) n
    ∙ ap (λ l. take done bytes ++ l) (take-append-le n part after k)

pub loop-done-preserved : goal.loop-done-preserved
loop-done-preserved g c =
    let before = c.loop-done.invariant in
    let part = c.read.new.buf in
    record {
      bound = omega (arith, length-append {A = ℕ}, length-take-le c.loop-done.done c.loop-done.bytes before.bound, c.in-Ok.ensures.bound.0);
      read = rw (read_more c.loop-done.done _ c.in-Ok.n c.loop-done.bytes part before.bound c.in-Ok.ensures.bound.0) (Consumes-trans _ _ _ _ _ before.read c.in-Ok.ensures.bytes.0);
    }
