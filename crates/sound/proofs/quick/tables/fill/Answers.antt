use Prim.Native.Nat.{ℕ, ◌-◌, ◌<◌}
use mathlib.Core.Path.{◌≡◌, refl, ◌∙◌}
use native.Mathlib.Omega.{arith}
use lib.ListN.{get_or, set, length-set}
use Rattle.rules.specs.Limits.{entries}
use Rattle.words.proofs.Ors.{sofar-start, sofar-on, sofar-end}
use Rattle.sound.specs.quick.Strides.{stride}
use Rattle.sound.proofs.quick.Strides.{table_on, table-one, stride-of, stride-self, free_of, bare-on, bare-off, bare-end}
use Rattle.sound.proofs.quick.tables.fill.Goals as goal

pub loop-e-init : goal.loop-e-init
loop-e-init c = (c.requires, sofar-start _, λ k o. absurd (omega arith))

pub loop-e-preserved : goal.loop-e-preserved
loop-e-preserved c =
    let o = c.loop-e-test.true in
    let f = free_of _ c.loop-e.e _ c.contents-all.result refl c.contents-all.ensures in (
      length-set c.loop-e.one c.loop-e.e c.lead.result ∙ c.loop-e.invariant.0,
      sofar-on _ _ _ _ _ c.loop-e.invariant.1 (bare-on _ c.loop-e.e entries c.contents-all.result o f) (bare-off _ c.loop-e.e entries c.contents-all.result o f),
      table_on (stride _) c.loop-e.one c.loop-e.e c.lead.result c.loop-e.invariant.2 (omega arith) (stride-of _ _ _ _ o c.get.ensures c.lead.ensures),
    )

pub returns : goal.returns
returns c =
    let s = c.args.s.now in
    let z : c.loop-e.e ≡ entries = omega arith in
    let one : (k : ℕ) → k < 128 → get_or c.loop-e.one k 0 ≡ stride s k = λ k o. c.loop-e.invariant.2 k (omega arith) in
    let two = table_on (stride s) c.loop-e.one 128 128 one (omega arith) (stride-self s 128 (omega arith)) in
    let all = table_on (stride s) (set c.loop-e.one 128 128) 129 129 two (omega (arith, length-set c.loop-e.one 128 128)) (stride-self s 129 (omega arith)) in
    (sofar-end _ _ _ c.loop-e.invariant.1 (bare-end s _ _ (omega arith)), table-one s (set (set c.loop-e.one 128 128) 129 129) all)
