-- A row of atoms as the loop of the code reads it.
use Rattle.std.proofs.Common.{◌≡◌, ℕ, Bool, true, false, max, map, List, [], ◌∷◌, ◌++◌, Ok, Err, refl, ap, ◌∙◌}
use Rattle.tl_text.specs.declared.place.Place.{Place}
use Rattle.readers.specs.declared.fault.ReadError.{ReadError}
use Rattle.readers.specs.declared.fault.ReadError.TheVariants as errors
use Rattle.readers.specs.Given.{Fails}
use Rattle.readers.specs.Reader.{first, head_is, Answer, Reader, ◌>>=◌, mapped, both, row}
use Rattle.readers.specs.Forms.{height_of}
use Rattle.readers.proofs.Choice.{remade}
use Rattle.readers.proofs.RowLoop.{Shortens, row_fails}
use Rattle.sml_lex.specs.declared.token.Token.{Token}
use Rattle.sml_ast.specs.declared.exp.AtExp.{AtExp}
use Rattle.sml_scan.proofs.Rows.{gathered}
use Rattle.sml_grammar_exp.specs.Exps.{At, Ex, apply_of, at_exp_place}
use Rattle.sml_parse_bind.proofs.Rows.{row_turn, row_end}
use Rattle.sml_parse_exp.specs.Trees.{at_tree, applied}

abbrev all_applied : Place → List AtExp × ℕ → Ex
all_applied p x = applied p x.0 x.1

-- what was found, from this place on, and what is still to come
abbrev pub reading : (Token → Bool) → Reader Token At → Place → List AtExp → ℕ → List Token → Answer Token Ex
reading test p place found n s = remade (all_applied place) (gathered at_tree height_of found n (row test p s))

abbrev pair_of : At × List At → List Token → Answer Token (At × List At)
pair_of x s = Ok (x, s)

module _ (test : Token → Bool) (p : Reader Token At) where
  pub atoms_first : (s : List Token) (z : At × List Token) → p s ≡ Ok z → mapped apply_of (both p (row test p)) s ≡ reading test p (at_exp_place z.0.0) (z.0.0 ∷ []) z.0.1 z.1
  unfolding Rattle.sml_ast.specs.declared.exp.AtExp.TheViews.roll-Exp denote.Hole.Carrier.roll
  atoms_first s z e = rw e (go (row test p z.1))
    where
      go : (r : Answer Token (List At)) → remade apply_of (r >>= λ y. pair_of (z.0, y.0) y.1) ≡ remade (all_applied (at_exp_place z.0.0)) (gathered at_tree height_of (z.0.0 ∷ []) z.0.1 r)
      go (Ok y) = refl
      go (Err e) = refl

  module _ (less : Shortens p) (place : Place) (found : List AtExp) (n : ℕ) (s : List Token) (all : Answer Token Ex) (inv : all ≡ reading test p place found n s) where
    pub atoms_turn : (z : At × List Token) → head_is test (first s) ≡ true → p s ≡ Ok z → all ≡ reading test p place (found ++ z.0.0 ∷ []) (max n z.0.1) z.1
    atoms_turn z h e = inv ∙ ap (remade (all_applied place)) (row_turn at_tree height_of test p less found n s z _ refl h e)

    pub atoms_end : head_is test (first s) ≡ false → all ≡ Ok (applied place found n, s)
    atoms_end h = inv ∙ ap (remade (all_applied place)) (row_end at_tree height_of test p less found n s _ refl h)

    pub atoms_fail : (f : ReadError Token) → head_is test (first s) ≡ true → Fails f (p s) → Fails f all
    atoms_fail errors.NoMemory h e = tt
    atoms_fail (errors.Refused code rest) h e = inv ∙ ap (λ (r : Answer Token (List At)). remade (all_applied place) (gathered at_tree height_of found n r)) (row_fails test p less s (code, rest.now) h e)
