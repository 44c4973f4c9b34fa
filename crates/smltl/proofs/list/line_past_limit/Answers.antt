use Rattle.std.proofs.Common.{sym, arith}
use Rattle.std.proofs.lemmas.List.{length-take-le}
use Rattle.smltl.proofs.list.line_past_limit.Goals as goal

pub slice_bounds-iter-end : goal.slice_bounds-iter-end
slice_bounds-iter-end c = sym (length-take-le _ c.args.list.now (omega arith))
