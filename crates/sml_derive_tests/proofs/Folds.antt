-- What folds give at each alternative of the trees.
use Rattle.sml_ast.specs.declared.ty.Ty.TheFolds as ty
use Rattle.sml_ast.specs.declared.pat.AtPat.TheFolds as pat
use Rattle.sml_ast.specs.declared.exp.AtExp.TheFolds as exp
use Rattle.sml_ast.specs.declared.sig.SigExp.TheFolds as sig
use Rattle.sml_ast.specs.declared.program.StrBind.TheFolds as structure
use Rattle.sml_ast.specs.declared.bare_ty.BareTy.TheFolds as bare_ty
use Rattle.sml_ast.specs.declared.bare_pat.BareAtPat.TheFolds as bare_pat
use Rattle.sml_ast.specs.declared.bare_exp.BareAtExp.TheFolds as bare_exp

pub ruleset types = (ty.the_lemmas, bare_ty.the_lemmas)

pub ruleset patterns = (ty.the_lemmas, pat.the_lemmas, bare_pat.the_lemmas)

pub ruleset expressions = (exp.the_lemmas, pat.the_lemmas, bare_exp.the_lemmas, bare_pat.the_lemmas)

pub ruleset modules = (sig.the_lemmas, structure.the_lemmas, exp.the_lemmas)
