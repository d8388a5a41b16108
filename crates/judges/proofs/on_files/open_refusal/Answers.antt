use Prim.Native.Nat.{ℕ}
use mathlib.Core.Path.{◌≡◌, sym, ◌∙◌}
use mathlib.Core.Bool.{true, false, cond}
use lib.Dec.{ltb, leb}
use Rattle.rules.specs.Limits.{places}
use Rattle.rules.specs.State.{Built}
use Rattle.rules.specs.Requests.{opened}
use Rattle.rules.specs.Open.{room_to_open}
use Rattle.accessors.specs.Sides.{purges_at}
use Rattle.refusing.proofs.Tests.{held, failed}
use Rattle.judges.specs.Verdicts.{forbidden, open_refusal}
use Rattle.judges.proofs.Together as together
use Rattle.judges.proofs.Together.{purge-known}
use Rattle.judges.proofs.Turns.{is-nought, not-nought}
use Rattle.refusing.specs.Verdicts.{modes_in_range}
use Rattle.judges.proofs.on_files.open_refusal.Goals as goal

-- the refusal number of a writer's open that has a place, of any open that has a place, and of one that the sharing allows
abbrev room_refusal : ℕ → Built → ℕ
room_refusal access b = cond (room_to_open access b) 0 42

abbrev place_refusal : ℕ → Built → ℕ
place_refusal access b = cond (ltb 0 access) (room_refusal access b) 0

abbrev shared_refusal : ℕ → Built → ℕ
shared_refusal access b = cond (leb places (opened b)) 41 (place_refusal access b)

-- the refusal number of an open whose modes are in range, of one that the sharing allows, of one that has a place, and of a writer's that has a place
module _ (access share multi : ℕ) (b : Built) (modes : modes_in_range access share multi ≡ true) where
  in-range : open_refusal access share multi b ≡ cond (forbidden access share multi b) 40 (shared_refusal access b)
  unfolding open_refusal
  in-range = rw modes

  module _ (allowed : forbidden access share multi b ≡ false) where
    shared : open_refusal access share multi b ≡ shared_refusal access b
    shared = rw (in-range, allowed)

    module _ (free : leb places (opened b) ≡ false) where
      placed : open_refusal access share multi b ≡ place_refusal access b
      placed = rw (shared, free)

      writes : ltb 0 access ≡ true → open_refusal access share multi b ≡ room_refusal access b
      writes w = rw (placed, w)

pub returns-then-not-modes_in_range-clause-refusal_value : goal.returns-then-not-modes_in_range-clause-refusal_value
unfolding open_refusal
returns-then-not-modes_in_range-clause-refusal_value c =
    λ b S. rw (failed c.modes_in_range.ensures c.if-not-modes_in_range.true)

pub returns-then-forbids-clause-refusal_value : goal.returns-then-forbids-clause-refusal_value
returns-then-forbids-clause-refusal_value c =
    λ b S. rw (in-range _ _ _ b (held c.modes_in_range.ensures c.if-not-modes_in_range.false), sym (c.forbids.ensures b S) ∙ c.if-forbids.true)

pub returns-then-closed-eq0-clause-refusal_value : goal.returns-then-closed-eq0-clause-refusal_value
returns-then-closed-eq0-clause-refusal_value c =
    λ b S. rw (shared _ _ _ b (held c.modes_in_range.ensures c.if-not-modes_in_range.false) (sym (c.forbids.ensures b S) ∙ c.if-forbids.false), together.full_is _ _ b S _ c.count_side-closed.ensures.0 c.if-closed-eq0.true)

pub returns-then-access-eq0-clause-refusal_value : goal.returns-then-access-eq0-clause-refusal_value
unfolding purges_at
returns-then-access-eq0-clause-refusal_value c =
    λ b S. rw (placed _ _ _ b (held c.modes_in_range.ensures c.if-not-modes_in_range.false) (sym (c.forbids.ensures b S) ∙ c.if-forbids.false) (together.not_full _ _ b S _ c.count_side-closed.ensures.0 c.if-closed-eq0.false), is-nought _ c.if-access-eq0.true)

pub returns-then-access-eq0-clause-purges_value : goal.returns-then-access-eq0-clause-purges_value
unfolding purges_at
returns-then-access-eq0-clause-purges_value c =
    rw (c.if-access-eq0.true)

pub has_room-requires-clause-by_index : goal.has_room-requires-clause-by_index
has_room-requires-clause-by_index c =
    (c.args.access, purge-known _ _ c.args.access _ c.count_side-closed.ensures.0 c.purging-purges.ensures)

pub returns-then-not-has_room-clause-refusal_value : goal.returns-then-not-has_room-clause-refusal_value
returns-then-not-has_room-clause-refusal_value c =
    λ b S. rw (writes _ _ _ b (held c.modes_in_range.ensures c.if-not-modes_in_range.false) (sym (c.forbids.ensures b S) ∙ c.if-forbids.false) (together.not_full _ _ b S _ c.count_side-closed.ensures.0 c.if-closed-eq0.false) (not-nought _ c.if-access-eq0.false), failed (c.has_room.ensures b S _ (purge-known _ _ c.args.access _ c.count_side-closed.ensures.0 c.purging-purges.ensures)) c.if-not-has_room.true)

pub returns-clause-refusal_value : goal.returns-clause-refusal_value
returns-clause-refusal_value c =
    λ b S. rw (writes _ _ _ b (held c.modes_in_range.ensures c.if-not-modes_in_range.false) (sym (c.forbids.ensures b S) ∙ c.if-forbids.false) (together.not_full _ _ b S _ c.count_side-closed.ensures.0 c.if-closed-eq0.false) (not-nought _ c.if-access-eq0.false), held (c.has_room.ensures b S _ (purge-known _ _ c.args.access _ c.count_side-closed.ensures.0 c.purging-purges.ensures)) c.if-not-has_room.false)

pub returns-clause-purges_value : goal.returns-clause-purges_value
returns-clause-purges_value c =
    purge-known _ _ c.args.access _ c.count_side-closed.ensures.0 c.purging-purges.ensures
