-- Rows of bindings, where the code has the directives in force at each turn, and what grows as it holds it.
use Rattle.std.proofs.Common.{◌≡◌, ℕ, ◌<◌, true, false, List, length, Option, Ok, subst, sym, ap, ◌∙◌}
use denote.Ref.{Bor}
use Rattle.readers.specs.declared.fault.ReadError.{ReadError}
use Rattle.readers.specs.Given.{Fails, Gives}
use Rattle.readers.specs.Reader.{first, head_is, Answer, Reader, mapped}
use Rattle.readers.proofs.RowLoop.{Shortens}
use Rattle.sml_lex.specs.declared.token.Token.{Token}
use Rattle.sml_ast.specs.declared.program.StrBind.{StrBind}
use Rattle.sml_grammar.specs.Types.{Ident}
use Rattle.sml_grammar_exp.specs.Decs.{Changes}
use Rattle.sml_grammar_mod.specs.Strs.{Ax, St, strbind_of}
use Rattle.sml_grammar_mod.specs.ReadStrs.{Bind, begins_grow, grown_str, turn_read}
use Rattle.sml_parse_mod.specs.declared.growing.Growing.{Growing}
use Rattle.sml_parse_mod.specs.Levels as levels
use Rattle.sml_parse_mod.specs.Nested.{Read}
use Rattle.sml_parse_mod.specs.Trees.{added, bind, step, stepped, strbinds, with_done}
use Rattle.sml_parse_mod.proofs.Steps.{binding_less}
use Rattle.sml_parse_mod.proofs.Turns as rows

module _ {F S : Type 0} (binding : Changes → Reader Token (Bind F)) (h : ℕ) (make : F × St → S × ℕ) (less : (k : Changes) → Shortens (binding k)) (cs : Changes) where
  abbrev Held : Type 0
  Held = F × Growing

  abbrev pub row : List S × ℕ → Bind F → List Token → Answer Token (List S × ℕ)
  row x y s = rows.row (binding cs) h make (less cs) (x, y) s

  abbrev now : Changes → Bind F → List Token → Answer Token (Option (S × ℕ) × Bind F)
  now ms y s = mapped (step make y) (turn_read (binding ms) h y) s

  module _ (ms : Changes) (m : ms ≡ cs) (x : List S × ℕ) (y : Bind F) (s : List Token) where
    gave : (z : Option (S × ℕ) × Bind F) (r : List Token) → now ms y s ≡ Ok (z, r) → now cs y s ≡ Ok (z, r)
    gave z r e = subst (λ (k : Changes). now k y s ≡ Ok (z, r)) m e

    pub loop_smaller : (z : Option (S × ℕ) × Bind F) (r : List Token) → now ms y s ≡ Ok (z, r) → length r < length s
    loop_smaller z r e = rows.row_smaller (binding cs) h make (less cs) (x, y) s z r (gave z r e)

    module _ (all : Answer Token (List S × ℕ)) (inv : all ≡ row x y s) where
      pub loop_turn : head_is begins_grow (first s) ≡ true → (t : Option (S × ℕ) × Held) (r : List Token) → now ms y s ≡ Ok (stepped t, r) → (k : (List S × ℕ) × Held) → k ≡ (with_done x t.0, t.1) → all ≡ row k.0 (bind k.1) r
      loop_turn i t r e k j =
          rows.row_turn (binding cs) h make (less cs) (x, y) s all inv i t.0 (bind t.1) r (gave (stepped t) r e)
          ∙ ap (λ (l : (List S × ℕ) × Held). row l.0 (bind l.1) r) (sym j)

      pub loop_fails : head_is begins_grow (first s) ≡ true → (f : ReadError Token) → Fails f (now ms y s) → Fails f all
      loop_fails i f e = rows.row_fails (binding cs) h make (less cs) (x, y) s all inv i f (subst (λ (k : Changes). Fails f (now k y s)) m e)

      pub loop_end : head_is begins_grow (first s) ≡ false → (d : S × ℕ) → d ≡ make (y.0, grown_str y.1) → (k : List S × ℕ) → k ≡ added x d → all ≡ Ok (k, s)
      loop_end i d e k j =
          rows.row_end (binding cs) h make (less cs) (x, y) s all inv i d e
          ∙ ap (λ (l : List S × ℕ). Ok (l, s)) (sym j)

-- what follows the first binding of a structure, where the same directives are in force as before it
module _ (cs ms : Changes) (m : ms ≡ cs) (h : ℕ) (s rest : List Token) (x : Bind (Ident × Option Ax)) (e : levels.bind cs h s ≡ Ok (x, rest)) where
  pub binds_give : (r : Read (List StrBind × ℕ)) → Gives (λ y. (y.0, y.1.now)) r (mapped strbinds (levels.binds_behind ms h x) rest) → Gives (λ y. (y.0, y.1.now)) r (mapped strbinds (levels.binds cs h) s)
  binds_give r g =
      let P : Answer Token (List StrBind × ℕ) → Type 0 = λ a. Gives (λ (y : (List StrBind × ℕ) × Bor (List Token)). (y.0, y.1.now)) r a in
      let Q : Changes → Type 0 = λ k. P (mapped strbinds (levels.binds_behind k h x) rest) in
      subst P (sym (rows.row_first (levels.bind cs h) h strbind_of (binding_less cs h) s (x, rest) e)) (subst Q m g)
