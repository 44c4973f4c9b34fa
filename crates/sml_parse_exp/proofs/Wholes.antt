-- `let`, `local`, `abstype`, `val` and `fun` as the code puts them together from their parts.
use Rattle.std.proofs.Common.{◌≡◌, ℕ, suc, Bool, true, false, max, List, ◌++◌, length, take, drop, Option, Ok, Err, refl, sym, ap, ◌∙◌, append_assoc}
use Rattle.tl_text.specs.declared.place.Place.{Place}
use Rattle.readers.specs.declared.code.Code.TheVariants.{Grammar}
use Rattle.readers.specs.declared.fault.ReadError.{ReadError}
use Rattle.readers.specs.Given.{Fails}
use Rattle.readers.specs.Reader.{first, head_is, Answer, Reader, mapped}
use Rattle.readers.proofs.Choice.{remade}
use Rattle.sml_lex.specs.declared.token.Token.{Token}
use Rattle.sml_ast.specs.declared.data.DatBind.{DatBind}
use Rattle.sml_ast.specs.declared.pat.Pat.{Pat}
use Rattle.sml_ast.specs.declared.exp.AtExp.TheVariants as at
use Rattle.sml_ast.specs.declared.exp.Exp.{Exp}
use Rattle.sml_ast.specs.declared.exp.Clause.{Clause}
use Rattle.sml_ast.specs.declared.exp.Dec.{Dec}
use Rattle.sml_ast.specs.declared.exp.Dec.TheVariants as made
use Rattle.sml_grammar.specs.Tokens.{tokens_of}
use Rattle.sml_grammar_exp.specs.Binds.{Vars, vars_of}
use Rattle.sml_grammar_exp.specs.Exps.{At, De, let_of}
use Rattle.sml_grammar_exp.specs.Decs.{Changes, fixed, afters, Cl, abs_of, funs_of, local_of, vals_of}
use Rattle.sml_grammar_exp.specs.ReadDecs.{dec_goes, clauses_read, under_by, under_two}
use Rattle.sml_grammar_exp.specs.ReadLevels.{clause_read, some_operator}
use Rattle.sml_parse_bind.specs.Levels as binds
use Rattle.sml_parse_bind.specs.Rows as rows
use Rattle.sml_parse_bind.proofs.Steps.{behind_first, mapped_mapped, under_two_is, under_by_is, ended_gives, ended_bars, ended_fails}
use Rattle.sml_parse_exp.specs.Levels as levels
use Rattle.sml_parse_exp.specs.Trees.{decs_of, exps_of, functions_of, all_changes}
use Rattle.sml_parse_exp.proofs.Pairs.{both_first_fails, first_part_fails, second_part, node_fails}
use Rattle.sml_parse_exp.proofs.Parts.{fails_as}
use Rattle.sml_parse_exp.proofs.Scopes.{afters_are, taken_front, dropped_front}

-- ---- the directives in force behind a scope

pub left_let : (s a b c ds : Changes) (n : ℕ) → n ≡ length s → a ≡ s ++ ds → b ≡ a → c ≡ take n b → c ≡ s
left_let s a b c ds n i e j k = k ∙ (ap (λ (n : ℕ). take n b) i ∙ (ap (λ (b : Changes). take (length s) b) (j ∙ e) ∙ taken_front s ds))

pub left_local : (s a b c ds es : Changes) (n m : ℕ) → n ≡ length s → a ≡ s ++ ds → m ≡ length a → b ≡ a ++ es → c ≡ take n b ++ drop m b → c ≡ s ++ es
left_local s a b c ds es n m i e j f k =
    let outer : take (length s) (a ++ es) ≡ s = ap (λ (a : Changes). take (length s) (a ++ es)) e ∙ (ap (λ (b : Changes). take (length s) b) (append_assoc s ds es) ∙ taken_front s (ds ++ es)) in
    k ∙ (ap (λ (n : ℕ). take n b ++ drop m b) i ∙ (ap (λ (m : ℕ). take (length s) b ++ drop m b) j ∙ (ap (λ (b : Changes). take (length s) b ++ drop (length a) b) f
    ∙ (ap (λ (z : Changes). z ++ drop (length a) (a ++ es)) outer ∙ ap (λ (z : Changes). s ++ z) (dropped_front a es)))))

-- the first part leaves these
in_force : (cs now : Changes) (x : List Dec × ℕ) → now ≡ cs ++ all_changes x.0 → (a : List De) → decs_of a ≡ x → afters cs a ≡ now
in_force cs now x e a i = afters_are cs a ∙ (ap (λ (y : List Dec × ℕ). cs ++ all_changes y.0) i ∙ sym e)

-- ---- nodes

abbrev let_node : Place → List Dec × ℕ → List Exp × ℕ → At
let_node p x y = (at.Let p x.0 y.0, suc (max x.1 y.1))

abbrev local_node : Place → List Dec × ℕ → List Dec × ℕ → De
local_node p x y = (made.Local p x.0 y.0, suc (max x.1 y.1))

abbrev abs_node : Place → (List DatBind × List rows.TyBind) × ℕ → List Dec × ℕ → De
abs_node p x y = (made.Abs p x.0.0 x.0.1 y.0, suc (max x.1 y.1))

abbrev vals_node : Place → Option Vars → (Bool × List (Pat × Exp)) × ℕ → De
vals_node p v x = (made.Vals p (vars_of v) x.0.0 x.0.1, suc x.1)

abbrev funs_node : Place → Option Vars → List (List Clause) × ℕ → De
funs_node p v x = (made.Funs p (vars_of v) x.0, suc x.1)

-- ---- two rows of declarations, or one before expressions

module _ (cs : Changes) (h : ℕ) (place : Place) (s : List Token) where
  abbrev functions : Reader Token (List (List Cl))
  functions = clauses_read (clause_read h false cs)

  pub let_first_fails : (k : ReadError Token) → Fails k (mapped decs_of (levels.decs cs h) s) → Fails k (mapped (λ x. let_of (place, x)) (levels.let_body cs h) s)
  let_first_fails k e = first_part_fails decs_of (levels.decs cs h) (λ ds. levels.body (afters cs ds) h) (λ x. let_of (place, x)) k s e

  pub local_first_fails : (k : ReadError Token) → Fails k (mapped decs_of (levels.decs cs h) s) → Fails k (mapped (λ x. local_of (place, x)) (levels.local_dec cs h) s)
  local_first_fails k e =
      ended_fails (λ x. local_of (place, x)) (tokens_of dec_goes) (levels.local_parts cs h) k s
      (first_part_fails decs_of (levels.decs cs h) (λ ds. levels.shown (afters cs ds) h) (λ x. local_of (place, x)) k s e)

  module _ (now : Changes) (x : List Dec × ℕ) (r : List Token) (e : mapped decs_of (levels.decs cs h) s ≡ Ok (x, r)) (force : now ≡ cs ++ all_changes x.0) where
    let_behind : mapped (λ y. let_of (place, y)) (levels.let_body cs h) s ≡ mapped (let_node place x) (mapped exps_of (levels.body now h)) r
    unfolding Rattle.sml_ast.specs.declared.exp.AtExp.TheViews.roll-AtExp denote.Hole.Carrier.roll
    let_behind =
        second_part decs_of (levels.decs cs h) (λ ds. levels.body (afters cs ds) h) (λ y. let_of (place, y)) (λ x es. let_node place x (exps_of es)) (λ a b. refl) s r x (levels.body now h) e
        (λ a i. ap (λ (c : Changes). levels.body c h r) (in_force cs now x force a i))
        ∙ sym (mapped_mapped exps_of (let_node place x) (levels.body now h) r)

    pub let_read : (y : List Exp × ℕ) (t : List Token) → mapped exps_of (levels.body now h) r ≡ Ok (y, t) → mapped (λ y. let_of (place, y)) (levels.let_body cs h) s ≡ Ok ((at.Let place x.0 y.0, suc (max x.1 y.1)), t)
    let_read y t i = let_behind ∙ ap (remade (let_node place x)) i

    pub let_fails : (k : ReadError Token) → Fails k (mapped exps_of (levels.body now h) r) → Fails k (mapped (λ y. let_of (place, y)) (levels.let_body cs h) s)
    let_fails k i = node_fails (let_node place x) k (mapped exps_of (levels.body now h) r) _ let_behind i

    local_behind : mapped (λ y. local_of (place, y)) (levels.local_parts cs h) s ≡ mapped (local_node place x) (mapped decs_of (levels.shown now h)) r
    unfolding Rattle.sml_ast.specs.declared.exp.AtExp.TheViews.roll-Dec denote.Hole.Carrier.roll
    local_behind =
        second_part decs_of (levels.decs cs h) (λ ds. levels.shown (afters cs ds) h) (λ y. local_of (place, y)) (λ x es. local_node place x (decs_of es)) (λ a b. refl) s r x (levels.shown now h) e
        (λ a i. ap (λ (c : Changes). levels.shown c h r) (in_force cs now x force a i))
        ∙ sym (mapped_mapped decs_of (local_node place x) (levels.shown now h) r)

    pub local_fails : (k : ReadError Token) → Fails k (mapped decs_of (levels.shown now h) r) → Fails k (mapped (λ y. local_of (place, y)) (levels.local_dec cs h) s)
    local_fails k i = ended_fails (λ y. local_of (place, y)) (tokens_of dec_goes) (levels.local_parts cs h) k s (node_fails (local_node place x) k (mapped decs_of (levels.shown now h) r) _ local_behind i)

    module _ (y : List Dec × ℕ) (t : List Token) (i : mapped decs_of (levels.shown now h) r ≡ Ok (y, t)) where
      pub local_read : head_is (tokens_of dec_goes) (first t) ≡ false → mapped (λ y. local_of (place, y)) (levels.local_dec cs h) s ≡ Ok ((made.Local place x.0 y.0, suc (max x.1 y.1)), t)
      local_read g = ended_gives (λ y. local_of (place, y)) (tokens_of dec_goes) (levels.local_parts cs h) s (local_node place x y, t) (local_behind ∙ ap (remade (local_node place x)) i) g

      pub local_barred : head_is (tokens_of dec_goes) (first t) ≡ true → mapped (λ y. local_of (place, y)) (levels.local_dec cs h) s ≡ Err (Grammar, t)
      local_barred g = ended_bars (λ y. local_of (place, y)) (tokens_of dec_goes) (levels.local_parts cs h) s (local_node place x y, t) (local_behind ∙ ap (remade (local_node place x)) i) g

  -- ---- types and declarations

  pub abs_first_fails : (k : ReadError Token) → Fails k (mapped rows.abstract_types (binds.abstract_types (fixed cs) h) s) → Fails k (mapped (λ y. abs_of (place, y)) (levels.abstype cs h) s)
  abs_first_fails k e =
      ended_fails (λ y. abs_of (place, y)) (tokens_of dec_goes) (levels.abstype_parts cs h) k s
      (first_part_fails rows.abstract_types (binds.abstract_types (fixed cs) h) (λ a. levels.with_part cs h) (λ y. abs_of (place, y)) k s e)

  module _ (x : (List DatBind × List rows.TyBind) × ℕ) (r : List Token) (e : mapped rows.abstract_types (binds.abstract_types (fixed cs) h) s ≡ Ok (x, r)) where
    abs_behind : mapped (λ y. abs_of (place, y)) (levels.abstype_parts cs h) s ≡ mapped (abs_node place x) (mapped decs_of (levels.with_part cs h)) r
    unfolding Rattle.sml_ast.specs.declared.exp.AtExp.TheViews.roll-Dec denote.Hole.Carrier.roll
    abs_behind =
        second_part rows.abstract_types (binds.abstract_types (fixed cs) h) (λ a. levels.with_part cs h) (λ y. abs_of (place, y)) (λ x ds. abs_node place x (decs_of ds)) (λ a b. refl) s r x (levels.with_part cs h) e (λ a i. refl)
        ∙ sym (mapped_mapped decs_of (abs_node place x) (levels.with_part cs h) r)

    pub abs_fails : (k : ReadError Token) → Fails k (mapped decs_of (levels.with_part cs h) r) → Fails k (mapped (λ y. abs_of (place, y)) (levels.abstype cs h) s)
    abs_fails k i = ended_fails (λ y. abs_of (place, y)) (tokens_of dec_goes) (levels.abstype_parts cs h) k s (node_fails (abs_node place x) k (mapped decs_of (levels.with_part cs h) r) _ abs_behind i)

    module _ (y : List Dec × ℕ) (t : List Token) (i : mapped decs_of (levels.with_part cs h) r ≡ Ok (y, t)) where
      pub abs_read : head_is (tokens_of dec_goes) (first t) ≡ false → mapped (λ y. abs_of (place, y)) (levels.abstype cs h) s ≡ Ok ((made.Abs place x.0.0 x.0.1 y.0, suc (max x.1 y.1)), t)
      abs_read g = ended_gives (λ y. abs_of (place, y)) (tokens_of dec_goes) (levels.abstype_parts cs h) s (abs_node place x y, t) (abs_behind ∙ ap (remade (abs_node place x)) i) g

      pub abs_barred : head_is (tokens_of dec_goes) (first t) ≡ true → mapped (λ y. abs_of (place, y)) (levels.abstype cs h) s ≡ Err (Grammar, t)
      abs_barred g = ended_bars (λ y. abs_of (place, y)) (tokens_of dec_goes) (levels.abstype_parts cs h) s (abs_node place x y, t) (abs_behind ∙ ap (remade (abs_node place x)) i) g

  -- ---- bindings of values under type variables

  pub vals_first_fails : (k : ReadError Token) → Fails k (binds.under_two s) → Fails k (mapped (λ y. vals_of (place, y)) (levels.vals cs h) s)
  vals_first_fails k e =
      ended_fails (λ y. vals_of (place, y)) (tokens_of dec_goes) (under_two (levels.values cs h)) k s
      (fails_as k _ _ (ap (remade (λ y. vals_of (place, y))) (under_two_is (levels.values cs h) s)) (both_first_fails (λ y. vals_of (place, y)) binds.under_two (levels.values cs h) k s e))

  module _ (v : Option Vars) (r : List Token) (e : binds.under_two s ≡ Ok (v, r)) where
    vals_behind : mapped (λ y. vals_of (place, y)) (under_two (levels.values cs h)) s ≡ mapped (vals_node place v) (mapped levels.values_of (levels.values cs h)) r
    unfolding Rattle.sml_ast.specs.declared.exp.AtExp.TheViews.roll-Dec denote.Hole.Carrier.roll
    vals_behind =
        ap (remade (λ y. vals_of (place, y))) (under_two_is (levels.values cs h) s)
        ∙ (behind_first (λ y. vals_of (place, y)) binds.under_two (levels.values cs h) s r v e ∙ sym (mapped_mapped levels.values_of (vals_node place v) (levels.values cs h) r))

    pub vals_fails : (k : ReadError Token) → Fails k (mapped levels.values_of (levels.values cs h) r) → Fails k (mapped (λ y. vals_of (place, y)) (levels.vals cs h) s)
    vals_fails k i = ended_fails (λ y. vals_of (place, y)) (tokens_of dec_goes) (under_two (levels.values cs h)) k s (node_fails (vals_node place v) k (mapped levels.values_of (levels.values cs h) r) _ vals_behind i)

    module _ (y : (Bool × List (Pat × Exp)) × ℕ) (t : List Token) (i : mapped levels.values_of (levels.values cs h) r ≡ Ok (y, t)) where
      pub vals_read : head_is (tokens_of dec_goes) (first t) ≡ false → mapped (λ y. vals_of (place, y)) (levels.vals cs h) s ≡ Ok ((made.Vals place (vars_of v) y.0.0 y.0.1, suc y.1), t)
      vals_read g = ended_gives (λ y. vals_of (place, y)) (tokens_of dec_goes) (under_two (levels.values cs h)) s (vals_node place v y, t) (vals_behind ∙ ap (remade (vals_node place v)) i) g

      pub vals_barred : head_is (tokens_of dec_goes) (first t) ≡ true → mapped (λ y. vals_of (place, y)) (levels.vals cs h) s ≡ Err (Grammar, t)
      vals_barred g = ended_bars (λ y. vals_of (place, y)) (tokens_of dec_goes) (under_two (levels.values cs h)) s (vals_node place v y, t) (vals_behind ∙ ap (remade (vals_node place v)) i) g

  -- ---- functions under type variables

  pub funs_first_fails : (k : ReadError Token) → Fails k (binds.under_by (some_operator cs) s) → Fails k (mapped (λ y. funs_of (place, y)) (levels.funs cs h) s)
  funs_first_fails k e =
      ended_fails (λ y. funs_of (place, y)) (tokens_of dec_goes) (under_by (some_operator cs) functions) k s
      (fails_as k _ _ (ap (remade (λ y. funs_of (place, y))) (under_by_is functions (some_operator cs) s)) (both_first_fails (λ y. funs_of (place, y)) (binds.under_by (some_operator cs)) functions k s e))

  module _ (v : Option Vars) (r : List Token) (e : binds.under_by (some_operator cs) s ≡ Ok (v, r)) where
    funs_behind : mapped (λ y. funs_of (place, y)) (under_by (some_operator cs) functions) s ≡ mapped (funs_node place v) (mapped functions_of functions) r
    unfolding Rattle.sml_ast.specs.declared.exp.AtExp.TheViews.roll-Dec denote.Hole.Carrier.roll
    funs_behind =
        ap (remade (λ y. funs_of (place, y))) (under_by_is functions (some_operator cs) s)
        ∙ (behind_first (λ y. funs_of (place, y)) (binds.under_by (some_operator cs)) functions s r v e ∙ sym (mapped_mapped functions_of (funs_node place v) functions r))

    pub funs_fails : (k : ReadError Token) → Fails k (mapped functions_of functions r) → Fails k (mapped (λ y. funs_of (place, y)) (levels.funs cs h) s)
    funs_fails k i = ended_fails (λ y. funs_of (place, y)) (tokens_of dec_goes) (under_by (some_operator cs) functions) k s (node_fails (funs_node place v) k (mapped functions_of functions r) _ funs_behind i)

    module _ (y : List (List Clause) × ℕ) (t : List Token) (i : mapped functions_of functions r ≡ Ok (y, t)) where
      pub funs_read : head_is (tokens_of dec_goes) (first t) ≡ false → mapped (λ y. funs_of (place, y)) (levels.funs cs h) s ≡ Ok ((made.Funs place (vars_of v) y.0, suc y.1), t)
      funs_read g = ended_gives (λ y. funs_of (place, y)) (tokens_of dec_goes) (under_by (some_operator cs) functions) s (funs_node place v y, t) (funs_behind ∙ ap (remade (funs_node place v)) i) g

      pub funs_barred : head_is (tokens_of dec_goes) (first t) ≡ true → mapped (λ y. funs_of (place, y)) (levels.funs cs h) s ≡ Err (Grammar, t)
      funs_barred g = ended_bars (λ y. funs_of (place, y)) (tokens_of dec_goes) (under_by (some_operator cs) functions) s (funs_node place v y, t) (funs_behind ∙ ap (remade (funs_node place v)) i) g
