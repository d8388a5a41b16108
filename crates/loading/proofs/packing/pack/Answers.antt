use Rattle.std.proofs.Common.{◌≡◌, ◌-◌, ◌+◌, arith, rules, take, refl, sym, ◌∙◌}
use Rattle.reader.specs.Frames.{frame_at}
use Rattle.reader.proofs.Frames.{frame-read}
use Rattle.reader.proofs.Sheets.{sheet-head}
use Rattle.loading.proofs.Packs.{frame-long, packs-ready, packs-put}
use Rattle.loading.proofs.Packed.{pack-begins, pack-ends}
use Rattle.loading.proofs.packing.pack.Goals as goal
use Rattle.loading.proofs.packing.pack.Goals.{After-hand_out-size}

pub unwrap-head-requires : goal.unwrap-head-requires
unwrap-head-requires c = let (h, e) = sheet-head c.args.text.now c.requires.1.0 c.requires.1.1 in rw (c.read_head.ensures.value, e) (search rules)

pub loop-init : goal.loop-init
loop-init c =
    let all : c.unwrap-head.result.held - 0 ≡ c.unwrap-head.result.held = omega arith in
    record {
      packs = λ s e. rw all (pack-begins _ s e _ _ _ c.requires.0 c.told-blocks c.begin-file.ensures.1 _ (sym c.read_head.ensures.value ∙ c.unwrap-head.ensures) _ c.begin-file.ensures.0);
      text = refl;
    }

-- a frame of the text is handed out
handed : (c : After-hand_out-size) → take c.hand_out-size.result c.hand_out-size.new.frame ≡ frame_at c.args.text.now c.loop.reader.at
handed c =
    frame-read _ _ _ _ _ (rw c.loop.invariant.text at c.hand_out-size.ensures.size) (rw c.loop.invariant.text at c.hand_out-size.ensures.bytes) (omega arith)

pub put_frame-file-requires : goal.put_frame-file-requires
put_frame-file-requires c =
    let P = c.loop.invariant.packs c.requires.1.0 c.requires.1.1 in
    let e = handed (goal.at.put_frame-file-requires c).After-hand_out-size in
    (c.requires.0, frame-long P _ e (omega arith), packs-ready P _ e (omega arith))

pub loop-preserved : goal.loop-preserved
loop-preserved c =
    let e = handed (goal.at.loop-preserved c).After-hand_out-size in
    let at = rw c.loop.invariant.text at c.hand_out-size.ensures.at in
    let left : c.unwrap-head.result.held - (c.loop.counter + 1) ≡ c.unwrap-head.result.held - c.loop.counter - 1 = omega arith in
    record {
      packs = λ s k. rw (at, left) (packs-put (c.loop.invariant.packs s k) _ e (omega arith) _ _ c.put_frame-file.ensures.0 c.put_frame-file.ensures.1);
      text = rw c.hand_out-size.ensures.text c.loop.invariant.text;
    }

pub returns : goal.returns
returns c = λ s e. pack-ends _ s e _ _ _ c.requires.0 c.told-blocks c.begin-file.ensures.1 _ _ _ _ (c.loop.invariant.packs s e) (omega arith)
