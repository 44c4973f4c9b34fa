use Rattle.std.proofs.Common.{sym, ◌∙◌}
use Rattle.std.proofs.lemmas.Result.{err_from_is_err_and}
use Rattle.readers.specs.Reader.{skip}
use Rattle.readers.proofs.RowLoop.{turned}
use Rattle.sml_grammar.specs.Tokens.{is}
use Rattle.sml_parse_bind.proofs.Rows.{plain_turn, plain_item_fails}
use Rattle.sml_grammar.specs.Words.{AND}
use Rattle.sml_grammar_sig.specs.ReadDescs.{named_read}
use Rattle.sml_parse_sig.proofs.Steps.{and_named_less}
use Rattle.sml_parse_sig.proofs.rows.more_names.Goals as goal

pub returns-in_err-other : goal.returns-in_err-other
returns-in_err-other c =
    let p = err_from_is_err_and c.from_residual-in_err-other.result c.from_residual-in_err-other.ensures.1 in
    rw (p.1, p.2) (plain_item_fails (is AND) (named_read) and_named_less c.in_err-other.field-0.0 c.items.found c.items.rest.now c.in_ok-after.after.now _ c.items.invariant (sym c.is_next.ensures ∙ c.items-test.true) c.in_ok-after.ensures c.in_err-other.ensures)

pub items-smaller : goal.items-smaller
items-smaller c = and_named_less c.items.rest.now (c.in_ok-other.other, c.in_ok-other.after.now) (rw c.in_ok-after.ensures c.in_ok-other.ensures)

pub items-preserved : goal.items-preserved
items-preserved c =
    rw c.in_ok-push.ensures.ok (plain_turn (is AND) (named_read) and_named_less c.items.found c.items.rest.now c.in_ok-after.after.now (c.in_ok-other.other, c.in_ok-other.after.now) _ c.items.invariant (sym c.is_next.ensures ∙ c.items-test.true) c.in_ok-after.ensures c.in_ok-other.ensures)

pub returns : goal.returns
returns c = turned (is AND) (skip (is AND) (named_read)) and_named_less c.items.found c.items.rest.now _ c.items.invariant (sym c.is_next.ensures ∙ c.items-test.false)
