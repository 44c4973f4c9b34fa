use Rattle.std.proofs.Common.{Some, ◌∙◌}
use Rattle.readers.specs.Forms.{ended}
use Rattle.sml_fix.specs.Fixities.{settings}
use Rattle.sml_grammar.specs.Tokens.{tokens_of}
use Rattle.sml_grammar_exp.specs.ReadDecs.{dec_goes}
use Rattle.sml_parse_bind.specs.Levels as levels
use Rattle.sml_parse_bind.specs.Rows as rows
use Rattle.sml_parse_bind.proofs.Hands.{under_right, vars_datas_are}
use Rattle.sml_parse_bind.proofs.Seen.{mapped_same, seen_gives}
use Rattle.sml_parse_bind.proofs.copying.under.Goals as goal

pub returns : goal.returns
returns c =
    let all = ended (tokens_of dec_goes) (levels.binds (settings c.args.fix.now) c.args.room) in
    rw c.in_ok-made.ensures
    (under_right (settings c.args.fix.now) c.args.room c.args.place c.in_ok-vars.vars c.in_ok-name.name c.args.tokens.now c.in_ok-vars.rest.now c.in_ok-name.rest.now c.in_ok-rest.rest.now c.in_ok-vars.ensures c.in_ok-name.ensures c.in_ok-rest.ensures
    ∙ (mapped_same _ _ (vars_datas_are c.args.place c.in_ok-name.name c.in_ok-vars.vars) all c.in_ok-rest.rest.now
    ∙ seen_gives rows.parts (rows.datatypes c.args.place (Some c.in_ok-vars.vars) c.in_ok-name.name) all c.in_ok-rest.rest.now (c.in_ok-parts.parts, c.in_ok-parts.rest.now) c.in_ok-parts.ensures))
