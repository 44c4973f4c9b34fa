use Rattle.std.proofs.Common.{ℕ, List, ◌∙◌}
use Rattle.readers.specs.Reader.{both, skip, row}
use Rattle.sml_ast.specs.declared.data.DatBind.{DatBind}
use Rattle.sml_fix.specs.Fixities.{settings}
use Rattle.sml_grammar.specs.Words.{AND}
use Rattle.sml_grammar.specs.Tokens.{is}
use Rattle.sml_grammar.specs.ReadTypes.{ty_read}
use Rattle.sml_grammar_exp.specs.Binds.{Cs, Db}
use Rattle.sml_grammar_exp.specs.ReadBinds.{cons_read, datbind_read}
use Rattle.sml_grammar_exp.specs.ReadDecs.{with_read}
use Rattle.sml_parse_bind.specs.Rows as rows
use Rattle.sml_parse_bind.specs.Rows.{TyBind}
use Rattle.sml_parse_bind.proofs.Steps.{behind_first}
use Rattle.sml_parse_bind.proofs.Seen.{seen_gives, pair_gives}
use Rattle.sml_parse_bind.proofs.copying.parts.Goals as goal

abbrev firsts : Cs × List Db → Cs × (List DatBind × ℕ)
firsts x = (x.0, rows.datbinds x.1)

abbrev behind : Cs → List DatBind × ℕ → Cs × (List DatBind × ℕ)
behind x y = (x, y)

abbrev grouped : Cs × (List DatBind × ℕ) → List TyBind × ℕ → Cs × (List DatBind × ℕ) × (List TyBind × ℕ)
grouped x y = (x.0, x.1, y)

pub returns : goal.returns
returns c =
    let cons = cons_read c.args.room (settings c.args.fix.now) in
    let more = row (is AND) (skip (is AND) (datbind_read cons)) in
    pair_gives firsts rows.with_types grouped (both cons more) (with_read (ty_read c.args.room) c.args.room) c.args.tokens.now c.in_ok-others.rest.now (c.in_ok-cons.cons, c.in_ok-others.others) (c.in_ok-types.types, c.in_ok-types.rest.now)
    (behind_first firsts cons more c.args.tokens.now c.in_ok-cons.rest.now c.in_ok-cons.cons c.in_ok-cons.ensures
    ∙ seen_gives rows.datbinds (behind c.in_ok-cons.cons) more c.in_ok-cons.rest.now (c.in_ok-others.others, c.in_ok-others.rest.now) c.in_ok-others.ensures)
    c.in_ok-types.ensures
