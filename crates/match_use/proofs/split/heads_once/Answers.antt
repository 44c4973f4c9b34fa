use Rattle.std.proofs.Common.{◌≡◌, ◌+◌, List, map, drop, true, sym, ap, subst, ◌∙◌}
use Rattle.std.specs.List.{list_all}
use Rattle.sml_static.specs.Exhaustive as static
use Rattle.sml_static.specs.Exhaustive.{head_of}
use Rattle.match_use.specs.declared.head.Head.{Head}
use Rattle.match_use.specs.Heads.{stands}
use Rattle.match_use.specs.Keys.{shared_head}
use Rattle.match_use.specs.Lines.{lines_of, columns_of, plain}
use Rattle.match_use.proofs.Gathering.{gathered, gathered-first, gathered-row, standing-more, rows_left, none_left}
use Rattle.match_use.proofs.split.heads_once.Goals as goal

pub loop-row-init : goal.loop-row-init
loop-row-init c = record {
  each = ap (λ (x : List Head). gathered (map shared_head x) (plain (lines_of c.args.rows.now))) c.new-found.ensures.empty ∙ gathered-first (plain (lines_of c.args.rows.now));
  standing = ap (λ (x : List Head). list_all stands (map shared_head x)) c.new-found.ensures.empty;
}

pub loop-row-preserved : goal.loop-row-preserved
loop-row-preserved c =
    let hs = map shared_head c.loop-row.found.keys in
    record {
      each = gathered-row hs (map shared_head c.add_head.new.found.keys) (drop c.loop-row.row-index c.args.rows.now) (drop (c.loop-row.row-index + 1) c.args.rows.now) c.row-item.result
          (rows_left c.args.rows.now c.loop-row.row-index c.row-item.result c.loop-row-test.true c.row-item.is) c.in_ok-add_head.ensures.each
          ∙ c.loop-row.invariant.each;
      standing = subst (λ (x : List static.Head). list_all stands x ≡ true) (sym c.in_ok-add_head.ensures.each) (standing-more hs (head_of (columns_of c.row-item.result.columns)) c.loop-row.invariant.standing c.in_ok-add_head.ensures.standing);
    }

pub returns-clause-each : goal.returns-clause-each
returns-clause-each c = sym (none_left (map shared_head c.loop-row.found.keys) c.args.rows.now c.loop-row.row-index c.loop-row-test.false) ∙ c.loop-row.invariant.each
