use Rattle.std.proofs.Common.{sym, ◌∙◌}
use Rattle.std.proofs.lemmas.Result.{err_from_is_err_and}
use Rattle.readers.specs.Reader.{token_by}
use Rattle.readers.proofs.RowLoop.{turn, turned}
use Rattle.sml_grammar.specs.Tokens.{tokens_of, alphas, strid}
use Rattle.sml_scan.proofs.Shorter.{token_shorter}
use Rattle.sml_parse_bind.proofs.Rows.{plain_fails}
use Rattle.sml_parse_sig.proofs.name.strids.Goals as goal

pub returns-in_err-other : goal.returns-in_err-other
returns-in_err-other c =
    let p = err_from_is_err_and c.from_residual-in_err-other.result c.from_residual-in_err-other.ensures.1 in
    rw (p.1, p.2) (plain_fails (tokens_of alphas) (token_by strid) (token_shorter strid) c.in_err-other.field-0.0 c.items.found c.items.rest.now _ c.items.invariant (sym c.is_strid.ensures ∙ c.items-test.true) c.in_err-other.ensures)

pub items-smaller : goal.items-smaller
items-smaller c = token_shorter strid c.items.rest.now (c.in_ok-other.other, c.in_ok-other.after.now) c.in_ok-other.ensures

pub items-preserved : goal.items-preserved
items-preserved c = rw c.in_ok-push-2.ensures.ok (turn (tokens_of alphas) (token_by strid) (token_shorter strid) c.items.found c.items.rest.now (c.in_ok-other.other, c.in_ok-other.after.now) _ c.items.invariant (sym c.is_strid.ensures ∙ c.items-test.true) c.in_ok-other.ensures)

pub returns : goal.returns
returns c = turned (tokens_of alphas) (token_by strid) (token_shorter strid) c.items.found c.items.rest.now _ c.items.invariant (sym c.is_strid.ensures ∙ c.items-test.false)
