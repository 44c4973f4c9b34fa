use Rattle.std.proofs.Common.{◌≡◌, List, map, sym, ap, subst, ◌∙◌}
use Rattle.sml_static.specs.Exhaustive.{split_by}
use Rattle.match_use.specs.declared.head.Head.{Head}
use Rattle.match_use.specs.Heads.{with_others}
use Rattle.match_use.specs.Keys.{shared_head}
use Rattle.match_use.specs.Lines.{lines_of, plain}
use Rattle.match_use.proofs.Heads.{with_other}
use Rattle.match_use.proofs.split.heads_to_split.Goals as goal
use Rattle.match_use.proofs.split.heads_to_split.Goals.{then-has_others+in_ok-insert, else-has_others}

pub returns-clause-by : goal.returns-clause-by
returns-clause-by c =
    let found = c.in_ok-found.found.keys in
    let split : with_others c.has_others.result (map shared_head found) ≡ split_by (map shared_head found) =
    sym (subst (λ (x : List Head). split_by (map shared_head x) ≡ with_others c.has_others.result (map shared_head x)) c.as_slice.ensures.keys c.has_others.ensures) in
    elim c.if-has_others.branch [
      | then-has_others+in_ok-insert w ↦
          ap (λ s. map shared_head s.keys) w.found-is ∙ ap (map shared_head) w.in_ok-insert.ensures.keys ∙ with_other found (plain (lines_of c.args.rows.now)) c.in_ok-found.ensures.each
          ∙ ap (λ b. with_others b (map shared_head found)) (sym w.if-has_others.true) ∙ split ∙ ap split_by c.in_ok-found.ensures.each
      | else-has_others w ↦
          ap (λ s. map shared_head s.keys) w.found-is ∙ ap (λ b. with_others b (map shared_head found)) (sym w.if-has_others.false) ∙ split ∙ ap split_by c.in_ok-found.ensures.each
    ]
