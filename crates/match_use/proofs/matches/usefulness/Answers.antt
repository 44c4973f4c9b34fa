use Rattle.std.proofs.Common.{List, Bool, Option, length, refl, sym, subst}
use Rattle.match_use.specs.declared.walk.Tally.{Tally}
use Rattle.match_use.specs.declared.walk.TheConstants.{SPLITS}
use Rattle.match_use.specs.Answer.{patterns_of, IsWhole}
use Rattle.match_use.specs.Lines.{lines_of}
use Rattle.match_use.proofs.Answering.{start_agree, start_below, answer_whole, answer_within, answer_over, Walked, not_true}
use Rattle.match_use.proofs.matches.usefulness.Goals as goal

pub walked-requires-clause-agree : goal.walked-requires-clause-agree
walked-requires-clause-agree c = start_agree (patterns_of c.args.rules.now) (lines_of c.in_ok-first.first.items) c.in_ok-first.ensures c.requires

pub walked-requires-clause-below : goal.walked-requires-clause-below
walked-requires-clause-below c = start_below _ c.args.rules.now (lines_of c.in_ok-first.first.items) c.in_ok-first.ensures refl

pub returns-in-Some-clause-whole : goal.returns-in-Some-clause-whole
returns-in-Some-clause-whole c =
    let t = c.in-Some.tally in
    let w = subst (λ (o : Option Tally). Walked (lines_of c.in_ok-first.first.items) (length c.args.rules.now) o) c.in-Some.is c.in_ok-tally.ensures in
    (λ _. answer_within SPLITS c.args.rules.now (lines_of c.in_ok-first.first.items) t.reached.items t.exhaustive t.splits c.in_ok-first.ensures w.0 w.1, λ _. refl)

pub returns-in-Some-clause-exact : goal.returns-in-Some-clause-exact
returns-in-Some-clause-exact c =
    let t = c.in-Some.tally in
    let w = subst (λ (o : Option Tally). Walked (lines_of c.in_ok-first.first.items) (length c.args.rules.now) o) c.in-Some.is c.in_ok-tally.ensures in
    λ _. subst (λ (x : List Bool). IsWhole (patterns_of c.args.rules.now) t.exhaustive x) (sym c.from_vec.ensures)
    (answer_whole c.args.rules.now (lines_of c.in_ok-first.first.items) t.reached.items t.exhaustive t.splits (length c.args.rules.now) c.in_ok-first.ensures c.requires w.0 w.2 refl)

pub returns-clause-whole : goal.returns-clause-whole
returns-clause-whole c =
    let w = subst (λ (o : Option Tally). Walked (lines_of c.in_ok-first.first.items) (length c.args.rules.now) o) c.in-None.is c.in_ok-tally.ensures in
    (λ f. absurd (not_true f), λ s. absurd (answer_over SPLITS c.args.rules.now (lines_of c.in_ok-first.first.items) c.in_ok-first.ensures w s))
