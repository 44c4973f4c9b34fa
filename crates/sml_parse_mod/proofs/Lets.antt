-- `let` over structure expressions, as the code makes it.
use Rattle.std.proofs.Common.{◌≡◌, ℕ, suc, ◌+◌, ◌++◌, max, List, Ok, sym, ap, ◌∙◌, arith}
use Rattle.tl_text.specs.declared.place.Place.{Place}
use Rattle.readers.specs.Reader.{Answer, mapped}
use Rattle.sml_lex.specs.declared.token.Token.{Token}
use Rattle.sml_ast.specs.declared.program.StrDec.{StrDec}
use Rattle.sml_ast.specs.declared.program.StrExp.{StrExp, roll-StrExp}
use Rattle.sml_ast.specs.declared.program.StrExp.TheVariants as strexps
use Rattle.sml_ast.specs.declared.program.StrBind.TheOpen.{StrExp-F}
use Rattle.sml_grammar_exp.specs.Decs.{Changes}
use Rattle.sml_grammar_mod.specs.Strs.{St, let_str_of}
use Rattle.sml_parse_mod.specs.Levels as levels
use Rattle.sml_parse_mod.specs.Trees.{all_changes, strdecs}
use Rattle.sml_parse_mod.proofs.Scopes.{let_gives}

abbrev sized : StrExp → ℕ → St
sized t n = (t, n)

abbrev given : List Token → St → Answer Token St
given t y = Ok (y, t)

one_more : (n : ℕ) → suc n ≡ n + 1
one_more n = omega arith

node_is : (place : Place) (x : List StrDec × ℕ) (e : St) → sized (roll-StrExp (StrExp-F.LetStr place x.0 e.0)) (suc (max x.1 e.1)) ≡ sized (strexps.LetStr place x.0 e.0) (max x.1 e.1 + 1)
unfolding Rattle.sml_ast.specs.declared.program.StrBind.TheViews.roll-StrExp denote.Hole.Carrier.roll
node_is place x e = ap (sized (strexps.LetStr place x.0 e.0)) (one_more (max x.1 e.1))

module _ (cs : Changes) (h : ℕ) (s : List Token) (place : Place) (x : List StrDec × ℕ) (r : List Token) (ms : Changes) where
  pub let_made : mapped strdecs (levels.decs cs h) s ≡ Ok (x, r) → ms ≡ cs ++ all_changes x.0
      → (e : St) (t : List Token) → levels.shown_str ms h r ≡ Ok (e, t) → (y : St) → y ≡ (strexps.LetStr place x.0 e.0, max x.1 e.1 + 1)
      → mapped (λ z. let_str_of (place, z)) (levels.let_str cs h) s ≡ Ok (y, t)
  let_made i m e t j y k = let_gives cs h s place x r ms i m e t j ∙ ap (given t) (node_is place x e ∙ sym k)
