-- Clauses as the code puts them together from their parts.
use Rattle.std.proofs.Common.{◌≡◌, ℕ, ◌≤◌, Bool, true, false, max, List, Option, Ok, refl, sym, ap, ◌∙◌}
use Rattle.readers.specs.declared.fault.ReadError.{ReadError}
use Rattle.readers.specs.Given.{Fails}
use Rattle.readers.specs.Reader.{first, head_is, mapped, both}
use Rattle.readers.proofs.Choice.{remade, only_is}
use Rattle.sml_lex.specs.declared.token.Token.{Token}
use Rattle.sml_fix.specs.declared.fixities.Fixities.{Fixities}
use Rattle.sml_fix.specs.Fixities.{Settings, settings}
use Rattle.sml_ast.specs.declared.ty.Ty.{Ty}
use Rattle.sml_ast.specs.declared.exp.Clause as clauses
use Rattle.sml_grammar.specs.Types.{Tx}
use Rattle.sml_grammar.specs.Pats.{opt_height, opt_tree}
use Rattle.sml_grammar_exp.specs.Clauses as grammar
use Rattle.sml_grammar_exp.specs.Exps.{Ex}
use Rattle.sml_grammar_exp.specs.Decs.{Changes, fixed, Cl, clause_of}
use Rattle.sml_grammar_exp.specs.ReadClauses.{begins_head, head_read}
use Rattle.sml_grammar_exp.specs.ReadLevels.{some_operator}
use Rattle.sml_parse_bind.specs.Heads as heads
use Rattle.sml_parse_bind.specs.declared.head.Head.{Head}
use Rattle.sml_parse_exp.specs.Clauses as spec
use Rattle.sml_parse_exp.specs.Levels as levels
use Rattle.sml_parse_exp.proofs.Pairs.{first_part_fails, second_part, node_fails}
use Rattle.sml_parse_exp.proofs.Parts.{fails_as}

-- ---- a front and the type of the result

abbrev front_node : Head × ℕ → Option Tx → (Head × Option Ty) × ℕ
front_node x t = ((x.0, opt_tree t), max x.1 (opt_height t))

module _ (ops : Bool) (fix : Fixities) (h : ℕ) (s : List Token) where
  pub front_first_fails : (k : ReadError Token) → Fails k (mapped heads.bare (head_read ops h false (settings fix)) s) → Fails k (mapped spec.front (spec.front_read ops fix h) s)
  front_first_fails k e = first_part_fails heads.bare (head_read ops h false (settings fix)) (λ a. levels.result_ty h) spec.front k s e

  module _ (x : Head × ℕ) (r : List Token) (e : mapped heads.bare (head_read ops h false (settings fix)) s ≡ Ok (x, r)) where
    front_behind : mapped spec.front (spec.front_read ops fix h) s ≡ mapped (front_node x) (levels.result_ty h) r
    front_behind = second_part heads.bare (head_read ops h false (settings fix)) (λ a. levels.result_ty h) spec.front front_node (λ a b. refl) s r x (levels.result_ty h) e (λ a i. refl)

    pub front_fails : (k : ReadError Token) → Fails k (levels.result_ty h r) → Fails k (mapped spec.front (spec.front_read ops fix h) s)
    front_fails k i = node_fails (front_node x) k (levels.result_ty h r) _ front_behind i

    pub front_is : (t : Option Tx) (u : List Token) → levels.result_ty h r ≡ Ok (t, u) → mapped spec.front (spec.front_read ops fix h) s ≡ Ok (((x.0, opt_tree t), max x.1 (opt_height t)), u)
    front_is t u i = front_behind ∙ ap (remade (front_node x)) i

-- ---- a front and its expression

abbrev clause_node : (Head × Option Ty) × ℕ → Ex → Cl
clause_node x b = spec.clause x.0.0 x.0.1 x.1 b

clause_same : (a : grammar.Head × Option Tx) (b : Ex) → clause_of (a, b) ≡ clause_node (spec.front a) b
unfolding clauses.roll-Clause denote.Hole.Carrier.roll
clause_same (grammar.Head.Prefix x, t) b = refl
clause_same (grammar.Head.Mid x, t) b = refl
clause_same (grammar.Head.MidMore x, t) b = refl

module _ (cs : Changes) (ops : Bool) (is_so : ops ≡ some_operator cs) (f : Settings) (now : f ≡ fixed cs) (fix : Fixities) (same : settings fix ≡ fixed cs) (h : ℕ) (s : List Token) (begins : head_is (begins_head ops f) (first s) ≡ true) (le : 2 ≤ h) where
  opened : levels.clause_level cs h s ≡ mapped clause_of (both (spec.front_read ops fix h) (levels.value cs h)) s
  opened =
      only_is (begins_head (some_operator cs) (fixed cs)) 2 (mapped clause_of (both (both (head_read (some_operator cs) h false (fixed cs)) (levels.result_ty h)) (levels.value cs h))) h s
      (ap (λ (g : Settings). head_is (begins_head (some_operator cs) g) (first s)) (sym now) ∙ (ap (λ (b : Bool). head_is (begins_head b f) (first s)) (sym is_so) ∙ begins)) le
      ∙ (ap (λ (g : Settings). mapped clause_of (both (both (head_read (some_operator cs) h false g) (levels.result_ty h)) (levels.value cs h)) s) (sym same)
      ∙ ap (λ (b : Bool). mapped clause_of (both (both (head_read b h false (settings fix)) (levels.result_ty h)) (levels.value cs h)) s) (sym is_so))

  pub clause_first_fails : (k : ReadError Token) → Fails k (mapped spec.front (spec.front_read ops fix h) s) → Fails k (levels.clause_level cs h s)
  clause_first_fails k e = fails_as k _ _ opened (first_part_fails spec.front (spec.front_read ops fix h) (λ a. levels.value cs h) clause_of k s e)

  module _ (x : (Head × Option Ty) × ℕ) (r : List Token) (e : mapped spec.front (spec.front_read ops fix h) s ≡ Ok (x, r)) where
    clause_behind : levels.clause_level cs h s ≡ mapped (clause_node x) (levels.value cs h) r
    clause_behind = opened ∙ second_part spec.front (spec.front_read ops fix h) (λ a. levels.value cs h) clause_of clause_node clause_same s r x (levels.value cs h) e (λ a i. refl)

    pub clause_fails : (k : ReadError Token) → Fails k (levels.value cs h r) → Fails k (levels.clause_level cs h s)
    clause_fails k i = node_fails (clause_node x) k (levels.value cs h r) _ clause_behind i

    pub clause_made : (y : Ex) (t : List Token) → levels.value cs h r ≡ Ok (y, t) → levels.clause_level cs h s ≡ Ok (spec.clause x.0.0 x.0.1 x.1 y, t)
    clause_made y t i = clause_behind ∙ ap (remade (clause_node x)) i
