use Rattle.std.proofs.Common.{map, ap, sym, ◌∙◌}
use Rattle.match_use.specs.Answer.{patterns_of}
use Rattle.match_use.specs.Standing.{standing_of, all_counts_agree, each_few}
use Rattle.match_use.proofs.Naming.{tested, apart, miscounted}
use Rattle.match_use.proofs.typed.are_of_one_type.Goals as goal

pub returns-then-not-all_agree : goal.returns-then-not-all_agree
returns-then-not-all_agree c = apart (patterns_of c.args.rules.now) (sym c.all_agree.ensures ∙ c.if-not-all_agree.true)

pub returns-then-not-counts_are_same : goal.returns-then-not-counts_are_same
returns-then-not-counts_are_same c =
    let all = ap (map standing_of) c.deref.ensures.value ∙ c.in_ok-found.ensures in
    miscounted (patterns_of c.args.rules.now) (sym (c.counts_are_same.ensures ∙ ap all_counts_agree all) ∙ c.if-not-counts_are_same.true)

pub returns : goal.returns
returns c =
    let all = ap (map standing_of) c.deref.ensures.value ∙ c.in_ok-found.ensures in
    let again = ap (map standing_of) c.deref-2.ensures.value ∙ c.in_ok-found.ensures in
    tested (patterns_of c.args.rules.now) c.are_few.result (c.are_few.ensures ∙ ap (λ cs. each_few cs cs) again) (sym c.all_agree.ensures ∙ c.if-not-all_agree.false)
    (sym (c.counts_are_same.ensures ∙ ap all_counts_agree all) ∙ c.if-not-counts_are_same.false)
