use Rattle.std.proofs.Common.{ℕ, max, List, Option}
use Rattle.std.proofs.lemmas.Result.{err_from_is_err_and}
use Rattle.readers.specs.Reader.{Reader}
use Rattle.readers.specs.Forms.{seps}
use Rattle.sml_lex.specs.declared.token.Token.{Token}
use Rattle.sml_ast.specs.declared.data.DatBind.{DatBind}
use Rattle.sml_fix.specs.Fixities.{Settings, settings}
use Rattle.sml_grammar.specs.Words.{AND}
use Rattle.sml_grammar.specs.Tokens.{is}
use Rattle.sml_grammar.specs.ReadTypes.{ty_read}
use Rattle.sml_grammar_exp.specs.Binds.{Db, Tb}
use Rattle.sml_grammar_exp.specs.ReadBinds.{cons_read, datbind_read}
use Rattle.sml_grammar_exp.specs.ReadDecs.{with_read}
use Rattle.sml_parse_bind.specs.Rows as rows
use Rattle.sml_parse_bind.specs.Rows.{TyBind}
use Rattle.sml_parse_bind.proofs.Seen.{pair_gives, pair_first, pair_second}
use Rattle.sml_parse_bind.proofs.datbind.abstract_types.Goals as goal

abbrev made : List DatBind × ℕ → List TyBind × ℕ → (List DatBind × List TyBind) × ℕ
made x y = ((x.0, y.0), max x.1 y.1)

abbrev all : Settings → ℕ → Reader Token (List Db)
all fix h = seps (is AND) (datbind_read (cons_read h fix))

abbrev types : ℕ → Reader Token (Option (List Tb))
types h = with_read (ty_read h) h

pub returns-in_err-found : goal.returns-in_err-found
returns-in_err-found c =
    let p = err_from_is_err_and c.from_residual.result c.from_residual.ensures.1 in
    rw (p.1, p.2) (pair_first rows.datbinds rows.with_types made (all (settings c.args.fix.now) c.args.room) (types c.args.room) c.in_err-found.field-0.0 c.args.tokens.now c.in_err-found.ensures)

pub returns-in_err-types : goal.returns-in_err-types
returns-in_err-types c =
    let p = err_from_is_err_and c.from_residual-in_err-types.result c.from_residual-in_err-types.ensures.1 in
    rw (p.1, p.2) (pair_second rows.datbinds rows.with_types made (all (settings c.args.fix.now) c.args.room) (types c.args.room) c.in_err-types.field-0.0 c.args.tokens.now c.in_ok-found.rest.now (c.in_ok-found.found, c.in_ok-found.height) c.in_ok-found.ensures c.in_err-types.ensures)

pub returns : goal.returns
returns c =
    rw c.higher.ensures (pair_gives rows.datbinds rows.with_types made (all (settings c.args.fix.now) c.args.room) (types c.args.room) c.args.tokens.now c.in_ok-found.rest.now (c.in_ok-found.found, c.in_ok-found.height) ((c.in_ok-types.types, c.in_ok-types.other), c.in_ok-types.rest.now) c.in_ok-found.ensures c.in_ok-types.ensures)
