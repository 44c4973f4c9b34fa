use Rattle.std.proofs.Common.{sym, ap, ◌∙◌, arith}
use Rattle.std.proofs.lemmas.Result.{err_from_is_err_and}
use Rattle.readers.proofs.Choice.{remade}
use Rattle.sml_parse_mod.specs.Trees as trees
use Rattle.sml_parse_mod.proofs.TopItems.{sigbinds_fail, sigbinds_give, sigbinds_low, sigbinds_other}
use Rattle.sml_parse_mod.proofs.top.sigbinds.Goals as goal

pub returns-then-not-is_strid : goal.returns-then-not-is_strid
returns-then-not-is_strid c = ap (remade trees.sigbinds) (sigbinds_other c.args.room c.args.tokens.now (sym c.is_strid.ensures ∙ c.if-not-is_strid.true))

pub returns-then-room-lt2 : goal.returns-then-room-lt2
returns-then-room-lt2 c = ap (remade trees.sigbinds) (sigbinds_low c.args.room c.args.tokens.now (sym c.is_strid.ensures ∙ c.if-not-is_strid.false) (let lt = c.if-room-lt2.true in omega arith))

pub returns-in_err-found : goal.returns-in_err-found
returns-in_err-found c =
    let p = err_from_is_err_and c.from_residual.result c.from_residual.ensures.1 in
    rw (p.1, p.2) (sigbinds_fail c.args.room c.args.tokens.now (sym c.is_strid.ensures ∙ c.if-not-is_strid.false) (let le = c.if-room-lt2.false in omega arith) c.in_err-found.field-0.0 c.in_err-found.ensures)

pub returns : goal.returns
returns c =
    rw c.in_ok-sigbinds_of.ensures (sigbinds_give c.args.room c.args.tokens.now (sym c.is_strid.ensures ∙ c.if-not-is_strid.false) (let le = c.if-room-lt2.false in omega arith) c.in_ok-found.found c.in_ok-found.rest.now c.in_ok-found.ensures)
