use Rattle.store.proofs.Fetches.{says_none, says_some}
use Rattle.records.proofs.cursor.Laws.{stands-ranged}
use Rattle.store.proofs.fetch.Goals as goal

pub returns-then-ring-eq0-clause-is : goal.returns-then-ring-eq0-clause-is
returns-then-ring-eq0-clause-is c =
    (says_none c.args.f c.args.typed c.args.keep c.args.blocks.now _ c.share.ensures c.args.file _ c.found-cursor.ensures.stands c.found-cursor.ensures.ring c.if-ring-eq0.true).0

pub returns-then-ring-eq0-clause-keeps : goal.returns-then-ring-eq0-clause-keeps
returns-then-ring-eq0-clause-keeps c =
    (says_none c.args.f c.args.typed c.args.keep c.args.blocks.now _ c.share.ensures c.args.file _ c.found-cursor.ensures.stands c.found-cursor.ensures.ring c.if-ring-eq0.true).1.1.0

pub returns-then-ring-eq0-clause-gets : goal.returns-then-ring-eq0-clause-gets
returns-then-ring-eq0-clause-gets c =
    (says_none c.args.f c.args.typed c.args.keep c.args.blocks.now _ c.share.ensures c.args.file _ c.found-cursor.ensures.stands c.found-cursor.ensures.ring c.if-ring-eq0.true).1.1.1

pub taken-requires : goal.taken-requires
taken-requires c =
    stands-ranged _ _ _ c.found-cursor.ensures.stands

pub returns-clause-is : goal.returns-clause-is
returns-clause-is c =
    (says_some c.args.f c.args.typed c.args.keep c.args.blocks.now _ c.share.ensures c.args.file _ c.found-cursor.ensures.stands c.found-cursor.ensures.ring c.if-ring-eq0.false _ c.taken.ensures).0

pub returns-clause-readable : goal.returns-clause-readable
returns-clause-readable c =
    (says_some c.args.f c.args.typed c.args.keep c.args.blocks.now _ c.share.ensures c.args.file _ c.found-cursor.ensures.stands c.found-cursor.ensures.ring c.if-ring-eq0.false _ c.taken.ensures).1.0

pub returns-clause-keeps : goal.returns-clause-keeps
returns-clause-keeps c =
    (says_some c.args.f c.args.typed c.args.keep c.args.blocks.now _ c.share.ensures c.args.file _ c.found-cursor.ensures.stands c.found-cursor.ensures.ring c.if-ring-eq0.false _ c.taken.ensures).1.1.0

pub returns-clause-gets : goal.returns-clause-gets
returns-clause-gets c =
    (says_some c.args.f c.args.typed c.args.keep c.args.blocks.now _ c.share.ensures c.args.file _ c.found-cursor.ensures.stands c.found-cursor.ensures.ring c.if-ring-eq0.false _ c.taken.ensures).1.1.1
