use Rattle.std.proofs.Common.{[], ◌∷◌, ◌++◌}
use Rattle.readdays.proofs.Frames.{frame_more}
use Rattle.readdays.proofs.stream.answer_frames.Goals as goal

pub loop-frame-preserved-in_ok-println-in-Frame : goal.loop-frame-preserved-in_ok-println-in-Frame
loop-frame-preserved-in_ok-println-in-Frame g c =
    let so_far = c.loop-frame.invariant in
    let frame = c.in-Frame.frame.now in
    (so_far.0 ++ frame ∷ [], frame_more so_far.0 c.args.bytes.now c.loop-frame.rest.now frame c.in-Frame.after.now so_far.1 c.in-Frame.ensures.all)

pub loop-frame-preserved : goal.loop-frame-preserved
loop-frame-preserved g c =
    let so_far = c.loop-frame.invariant in
    let frame = c.in-Frame.frame.now in
    (so_far.0 ++ frame ∷ [], frame_more so_far.0 c.args.bytes.now c.loop-frame.rest.now frame c.in-Frame.after.now so_far.1 c.in-Frame.ensures.all)
