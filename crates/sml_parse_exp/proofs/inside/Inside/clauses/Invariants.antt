use Rattle.std.proofs.Common.{◌≡◌, false, not, length}
use Rattle.readers.specs.Reader.{mapped}
use Rattle.readers.specs.Forms.{height_of}
use Rattle.sml_grammar.specs.Words.{BAR}
use Rattle.sml_grammar.specs.Tokens.{is}
use Rattle.sml_grammar_exp.specs.Exps.{takes_bar}
use Rattle.sml_grammar_exp.specs.Decs.{clause_bar}
use Rattle.sml_grammar_exp.specs.ReadLevels.{clause_read}
use Rattle.sml_parse_pat.proofs.Ready.{Reading}
use Rattle.sml_parse_exp.specs.Levels as levels
use Rattle.sml_parse_exp.specs.Trees as trees
use Rattle.sml_parse_exp.proofs.inside.Inside.clauses.Given as goal

abbrev pub invariant-clauses : goal.invariant-clauses
invariant-clauses g l =
    Reading trees.clause_tree height_of (is BAR) clause_bar (clause_read l.room false l.fn.scope) l.found l.height (not (takes_bar (trees.ends_of l.ends).reach)) l.rest (mapped trees.clauses_of (levels.clauses l.fn.scope l.room) l.tokens)
    × (l.scope ≡ l.fn.scope)

abbrev pub decreases-clauses : goal.decreases-clauses
decreases-clauses g l = length l.rest
