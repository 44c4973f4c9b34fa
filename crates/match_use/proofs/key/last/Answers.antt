use Rattle.std.proofs.Common.{◌<◌, ◌-◌, length, sym, ◌∙◌, arith}
use Rattle.std.proofs.lemmas.Option.{slice_get_within}
use Rattle.match_use.proofs.Lasts.{last_part-got}
use Rattle.match_use.proofs.key.last.Goals as goal

pub returns-in-Some : goal.returns-in-Some
returns-in-Some c =
    let got = sym c.in-Some.ensures.value in
    let within : length c.args.parts.now - 1 < length c.args.parts.now = slice_get_within c.args.parts.now (length c.args.parts.now - 1) c.in-Some.name.now got in
    c.bytes.ensures ∙ sym (last_part-got c.args.parts.now (length c.args.parts.now - 1) c.in-Some.name.now (omega arith) got)
