-- The settling loop: its turns, its end, and what it counts down.
use Prim.Native.Nat.{ℕ, ◌≤◌, ◌<◌}
use mathlib.Core.Path.{◌≡◌, refl, sym, ap, ◌∙◌, subst}
use mathlib.Core.Bool.{true, false}
use mathlib.Core.List.{List}
use native.Mathlib.Omega.{arith}
use Rattle.rules.specs.Limits.{entries}
use Rattle.rules.specs.State.{Built}
use Rattle.rules.specs.Settle.{Turn, serve_reader, serve_writer, at_head, turn, settle}
use Rattle.segment.specs.Layout.{read_queue, write_queue}
use Rattle.segment.specs.Table.{nth}
use Rattle.laws.proofs.Settled.{many, shrunk-turn, reader-head}
use Rattle.laws.proofs.Cases.{turn-reader, turn-writer}
use Rattle.memory.specs.Memories.{Memories, memories}
use Rattle.memory.specs.Fine.{Fine}
use Rattle.midst.specs.declared.File as hand
use Rattle.midst.specs.Mid.{Start, Mid}
use Rattle.settling.specs.declared.Turn as code
use Rattle.settling.specs.Turns.{Amid, Beside, Served, Comes, waiting}
use Rattle.settling.proofs.ReadTurns as reading
use Rattle.settling.proofs.WriteTurns as writing
use Rattle.settling.proofs.Rests.{settle-on, settle-rest, mid-waiting}
use Rattle.settling.proofs.Beside.{kept-reader, kept_writer, beside-on}

pub comes-here : (f : ℕ) (m : Memories) (x : hand.File) → Comes f m x m x
comes-here f m x = record { to = λ o b M. b; mid = λ o b M. M; same = λ o b M. refl }

pub comes-amid : {f : ℕ} {m m' : Memories} {x x' : hand.File} → Comes f m x m' x' → Amid f m x → Amid f m' x'
comes-amid K (o, b, M) = (o, K.to o b M, K.mid o b M)

module _ {f : ℕ} {ms₀ : Memories} {x₀ : hand.File} {ms : Memories} {x : hand.File} (K : Comes f ms₀ x₀ ms x)
    {xs₁ buffers₁ : List ℕ} {r : code.Turn}
    (S : (o : Start) (b : Built) → Mid Fine f o ms x b → Served f o (memories xs₁ ms.blocks buffers₁) r (at_head serve_reader b.rq b)) where
  pub after-amid : Amid f ms₀ x₀ → Amid f (memories xs₁ ms.blocks buffers₁) r.file
  after-amid (o, b, M) = (o, _, (S o (K.to o b M) (K.mid o b M)).mid)

  pub after-beside : {w : ℕ} → Amid f ms₀ x₀ → Beside w f ms.segment → Beside w f xs₁
  after-beside (o, b, M) = let N = K.mid o b M in beside-on N (S o (K.to o b M) N).mid (kept-reader (K.to o b M))

  -- the reader was served
  module _ (moved : r.moved ≡ true) where
    turned : (o : Start) (c : Built) → Mid Fine f o ms x c → turn c ≡ at_head serve_reader c.rq c
    turned o c M = turn-reader c (sym (S o c M).moved ∙ moved)

    turn_moved : (o : Start) (c : Built) → Mid Fine f o ms x c → (turn c).moved ≡ true
    turn_moved o c M = ap (λ (m : Turn). m.moved) (turned o c M) ∙ sym (S o c M).moved ∙ moved

    pub read_again : Comes f ms₀ x₀ (memories xs₁ ms.blocks buffers₁) r.file
    read_again = record {
      to = λ o b M. (at_head serve_reader (K.to o b M).rq (K.to o b M)).file;
      mid = λ o b M. (S o (K.to o b M) (K.mid o b M)).mid;
      same = λ o b M. ap (λ (m : Turn). settle m.file) (sym (turned o (K.to o b M) (K.mid o b M))) ∙ settle-on (K.to o b M) (turn_moved o (K.to o b M) (K.mid o b M)) ∙ K.same o b M;
    }

    pub read-less : Amid f ms₀ x₀ → waiting xs₁ f < waiting ms.segment f
    read-less (o, b, M) =
        let c : Built = K.to o b M in
        let N = K.mid o b M in
        omega (arith, mid-waiting N, mid-waiting (S o c N).mid, shrunk-turn c (turn_moved o c N), ap (λ (m : Turn). many m.file) (turned o c N))

  -- the reader was not served, and it is the writer's turn
  module _ (stays : r.moved ≡ false) {ms₂ : Memories} {q : code.Turn}
      (T : (o : Start) (b : Built) → Mid Fine f o (memories xs₁ ms.blocks buffers₁) r.file b → Served f o ms₂ q (at_head serve_writer b.wq b)) where
    module _ (o : Start) (c : Built) (M : Mid Fine f o ms x c) where
      abbrev m : Turn
      m = at_head serve_reader c.rq c

      not-moved : m.moved ≡ false
      not-moved = sym (S o c M).moved ∙ stays

      turn_is : turn c ≡ at_head serve_writer m.file.wq m.file
      turn_is = turn-writer c not-moved ∙ ap (λ (l : List ℕ). at_head serve_writer l m.file) (sym (reader-head c.rq c not-moved).wq)

      served : Served f o ms₂ q (turn c)
      served = subst (Served f o ms₂ q) (sym turn_is) (T o m.file (S o c M).mid)

    pub beside-again : {w : ℕ} → Amid f ms₀ x₀ → Beside w f xs₁ → Beside w f ms₂.segment
    beside-again (o, b, M) = let N = (S o (K.to o b M) (K.mid o b M)).mid in beside-on N (T o _ N).mid (kept_writer _)

    -- the writer was served
    module _ (moved : q.moved ≡ true) where
      pub write_again : Comes f ms₀ x₀ ms₂ q.file
      write_again = record {
        to = λ o b M. (turn (K.to o b M)).file;
        mid = λ o b M. (served o (K.to o b M) (K.mid o b M)).mid;
        same = λ o b M. settle-on (K.to o b M) (sym (served o (K.to o b M) (K.mid o b M)).moved ∙ moved) ∙ K.same o b M;
      }

      pub write-less : Amid f ms₀ x₀ → waiting ms₂.segment f < waiting ms.segment f
      write-less (o, b, M) =
          let c : Built = K.to o b M in
          let N = K.mid o b M in
          omega (arith, mid-waiting N, mid-waiting (served o c N).mid, shrunk-turn c (sym (served o c N).moved ∙ moved))

    -- the writer was not served either: the file has settled
    pub at_rest : q.moved ≡ false → (o : Start) (b : Built) → Mid Fine f o ms₀ x₀ b → Mid Fine f o ms₂ q.file (settle b)
    at_rest stay o b M =
        let c : Built = K.to o b M in
        let N = served o c (K.mid o b M) in
        subst (λ (z : Built). Mid Fine f o ms₂ q.file z) (sym (settle-rest c (sym N.moved ∙ stay)) ∙ K.same o b M) N.mid

-- nobody waits, and the file has settled
pub nobody-settles : {f : ℕ} {o : Start} {m : Memories} {x : hand.File} {b : Built} → entries ≤ nth m.segment (read_queue f) → entries ≤ nth m.segment (write_queue f)
    → Mid Fine f o m x b → Mid Fine f o m x (settle b)
nobody-settles {f} {o} {m} {x} {b} r w M =
    at_rest (comes-here f m x) {r = record { moved = false; file = x }} (λ o b M. reading.turn-nobody M _ refl r) refl
    {q = record { moved = false; file = x }} (λ o b M. writing.turn-nobody M _ refl w) refl o b M
