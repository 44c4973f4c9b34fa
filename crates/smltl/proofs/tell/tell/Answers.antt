use Rattle.std.proofs.Common.{take, refl, inr}
use Rattle.smltl.proofs.Translating.{begins_front}
use Rattle.smltl.proofs.tell.tell.Goals as goal

pub returns-in-Err : goal.returns-in-Err
returns-in-Err g c =
    let f = c.in-Err.ensures.failed.1 in
    (take f.0 c.args.line.now, inr (refl, begins_front f.0 c.args.line.now, c.in-Err.ensures.failed.0), f.2)
