-- The readers of parts, where the code hands on what another function gives.
use Rattle.std.proofs.Common.{◌≡◌, ℕ, suc, ◌-◌, ◌<◌, ◌≤◌, Bool, ◌||◌, true, false, ltb, List, Option, Some, None, Ok, Err, refl, sym, ap, ◌∙◌, arith}
use Rattle.std.proofs.lemmas.Bool.{le-ltb}
use Rattle.tl_text.specs.declared.place.Place.{Place}
use Rattle.readers.specs.Reader.{first, head_is, Answer, mapped, both, one, skip, token_by, only}
use Rattle.readers.specs.Forms.{ended, seps, optional}
use Rattle.readers.proofs.Choice.{remade, only_is, skip_is_next}
use Rattle.sml_lex.specs.declared.token.Token.{Token}
use Rattle.sml_ast.specs.declared.exp.Dec.{roll-Dec}
use Rattle.sml_fix.specs.Fixities.{Settings}
use Rattle.sml_grammar.specs.Words.{AND, DATATYPE, EQUALS, OF, WITHTYPE}
use Rattle.sml_grammar.specs.Tokens.{just, is, plain_fix, tokens_of, tycon, tycons, long_tycon}
use Rattle.sml_grammar.specs.Types.{Ident}
use Rattle.sml_grammar.proofs.Sets.{is_just, among_union}
use Rattle.sml_grammar.specs.Pats.{Name}
use Rattle.sml_grammar.specs.ReadTypes.{ty_read}
use Rattle.sml_grammar_exp.specs.Binds.{Vars, Tb, Cs, tybind_of, datbind_of, Vid, Given, exbind_of}
use Rattle.sml_grammar_exp.specs.Decs.{Data, data_of, Right, right_of, vars_data, Binds, types_of}
use Rattle.sml_grammar_exp.specs.ReadBinds.{begins_vars, begins_vid, begins_given, given_read, tybind_read, datbind_read, cons_read, cons_level, exbind_read, exbind_level}
use Rattle.sml_grammar_exp.specs.ReadDecs.{dec_goes, with_read}
use Rattle.sml_parse_bind.specs.Levels as levels
use Rattle.sml_parse_bind.specs.Rows as rows
use Rattle.sml_parse_bind.proofs.Nodes.{else_skip}
use Rattle.sml_parse_bind.proofs.Steps.{mapped_mapped, behind_first, under_is, vars_are}

-- ---- bindings under type variables

pub tybind_is : (h : ℕ) (s : List Token) → tybind_read (ty_read h) s ≡ levels.tybind_parts h s
tybind_is h s = ap (remade tybind_of) (under_is (both (token_by tycon) (skip (is EQUALS) (ty_read h))) s)

pub datbind_is : (fix : Settings) (h : ℕ) (s : List Token) → datbind_read (cons_read h fix) s ≡ levels.datbind_parts fix h s
datbind_is fix h s = ap (remade datbind_of) (under_is (both (token_by tycon) (skip (is EQUALS) (cons_read h fix))) s)

-- `withtype`, where it is next
pub with_in : (h : ℕ) (s rest : List Token) → head_is (is WITHTYPE) (first s) ≡ true → 1 ≤ h → one (is WITHTYPE) s ≡ Ok (tt, rest)
    → mapped rows.with_types (with_read (ty_read h) h) s ≡ mapped rows.tybinds (seps (is AND) (tybind_read (ty_read h))) rest
with_in h s rest i le e =
    let none : ltb h 1 ≡ false = le-ltb h 1 le in
    rw i (rw none (rw e (go (seps (is AND) (tybind_read (ty_read h)) rest))))
  where
    go : (r : Answer Token (List Tb)) → remade rows.with_types (remade (λ x. Some x) r) ≡ remade rows.tybinds r
    go (Ok x) = refl
    go (Err d) = refl

-- ---- trees of declarations, from their parts without heights

pub types_are : (place : Place) (ts : List Tb) → types_of (place, ts) ≡ rows.types place (rows.tybinds ts)
unfolding roll-Dec denote.Hole.Carrier.roll
types_are place ts = refl

module _ (place : Place) (name : Ident) where
  pub datas_are : (x : Binds Cs) → data_of (place, right_of (name, Right.Cons x)) ≡ rows.datatypes place None name (rows.parts x)
  unfolding roll-Dec denote.Hole.Carrier.roll
  datas_are x = refl

  pub vars_datas_are : (vs : Vars) (x : Binds Cs) → data_of (place, vars_data (vs, (name, x))) ≡ rows.datatypes place (Some vs) name (rows.parts x)
  unfolding roll-Dec denote.Hole.Carrier.roll
  vars_datas_are vs x = refl

-- ---- behind the test of the room

module _ (fix : Settings) where
  cons_suc : (h : ℕ) (s : List Token) → cons_read (suc h) fix s ≡ cons_level fix (ty_read h) h s
  unfolding cons_read
  cons_suc h s = refl

  pub cons_is : (h : ℕ) (s : List Token) → 0 < h → cons_read h fix s ≡ cons_level fix (ty_read (h - 1)) (h - 1) s
  cons_is h s lt = let same : h ≡ suc (h - 1) = omega arith in ap (λ (k : ℕ). cons_read k fix s) same ∙ cons_suc (h - 1) s

  exbind_suc : (h : ℕ) (s : List Token) → exbind_read (suc h) fix s ≡ exbind_level fix (ty_read h) h s
  unfolding exbind_read
  exbind_suc h s = refl

  pub exbind_is : (h : ℕ) (s : List Token) → 0 < h → exbind_read h fix s ≡ exbind_level fix (ty_read (h - 1)) (h - 1) s
  exbind_is h s lt = let same : h ≡ suc (h - 1) = omega arith in ap (λ (k : ℕ). exbind_read k fix s) same ∙ exbind_suc (h - 1) s

  -- ---- what follows `datatype`

  module _ (h : ℕ) (place : Place) where
    pub right_copied : (name : Ident) (s : List Token) → head_is (is DATATYPE) (first s) ≡ true
        → mapped (λ x. data_of (place, right_of (name, x))) (levels.right fix h) s ≡ mapped (λ c. data_of (place, Data.Copied (name, c))) (ended (tokens_of dec_goes) (skip (is DATATYPE) (token_by long_tycon))) s
    right_copied name s i =
        let none : ltb h 0 ≡ false = le-ltb h 0 (omega arith) in
        rw i (rw none (mapped_mapped Right.Copies (λ x. data_of (place, right_of (name, x))) (ended (tokens_of dec_goes) (skip (is DATATYPE) (token_by long_tycon))) s))

    pub right_cons : (name : Ident) (s : List Token) → head_is (is DATATYPE) (first s) ≡ false → head_is (begins_vid fix) (first s) ≡ true → 1 ≤ h
        → mapped (λ x. data_of (place, right_of (name, x))) (levels.right fix h) s ≡ mapped (λ x. data_of (place, right_of (name, Right.Cons x))) (ended (tokens_of dec_goes) (levels.binds fix h)) s
    right_cons name s i j le =
        let made = mapped Right.Cons (ended (tokens_of dec_goes) (levels.binds fix h)) in
        ap (remade (λ x. data_of (place, right_of (name, x))))
        (else_skip (is DATATYPE) 0 (mapped Right.Copies (ended (tokens_of dec_goes) (skip (is DATATYPE) (token_by long_tycon)))) (only (begins_vid fix) 1 made h) h s i
        ∙ only_is (begins_vid fix) 1 made h s j le)
        ∙ mapped_mapped Right.Cons (λ x. data_of (place, right_of (name, x))) (ended (tokens_of dec_goes) (levels.binds fix h)) s

    pub data_under : (s : List Token) → head_is (tokens_of tycons) (first s) ≡ false → head_is begins_vars (first s) ≡ true → 1 ≤ h
        → mapped (λ x. data_of (place, x)) (levels.datas fix h) s ≡ mapped (λ x. data_of (place, vars_data x)) (levels.datatypes_under fix h) s
    data_under s i j le =
        let made = mapped vars_data (levels.datatypes_under fix h) in
        ap (remade (λ x. data_of (place, x)))
        (else_skip (tokens_of tycons) 0 (mapped right_of (both (token_by tycon) (skip (is EQUALS) (levels.right fix h)))) (only begins_vars 1 made h) h s i
        ∙ only_is begins_vars 1 made h s j le)
        ∙ mapped_mapped vars_data (λ x. data_of (place, x)) (levels.datatypes_under fix h) s

    -- type variables first, and then what follows them
    pub under_parts : (s : List Token)
        → mapped (λ x. data_of (place, vars_data x)) (levels.datatypes_under fix h) s
        ≡ mapped (λ x. data_of (place, vars_data x)) (both levels.vars (both (token_by tycon) (skip (is EQUALS) (ended (tokens_of dec_goes) (levels.binds fix h))))) s
    under_parts s = ap (remade (λ x. data_of (place, vars_data x))) (vars_are (both (token_by tycon) (skip (is EQUALS) (ended (tokens_of dec_goes) (levels.binds fix h)))) s)

    pub under_right : (vs : Vars) (name : Ident) (s at rest after : List Token) → levels.vars s ≡ Ok (vs, at) → token_by tycon at ≡ Ok (name, rest) → one (is EQUALS) rest ≡ Ok (tt, after)
        → mapped (λ x. data_of (place, vars_data x)) (levels.datatypes_under fix h) s ≡ mapped (λ x. data_of (place, vars_data (vs, (name, x)))) (ended (tokens_of dec_goes) (levels.binds fix h)) after
    under_right vs name s at rest after v e o =
        let all = ended (tokens_of dec_goes) (levels.binds fix h) in
        under_parts s
        ∙ (behind_first (λ x. data_of (place, vars_data x)) levels.vars (both (token_by tycon) (skip (is EQUALS) all)) s at vs v
        ∙ (behind_first (λ x. data_of (place, vars_data (vs, x))) (token_by tycon) (skip (is EQUALS) all) at rest name e
        ∙ ap (remade (λ x. data_of (place, vars_data (vs, (name, x))))) (skip_is_next (is EQUALS) all rest after o)))

  -- ---- what follows the name of an exception

  module _ (h : ℕ) (made : Vid) where
    -- what begins so, and what does not
    given_begins : (o : Option Token) → head_is begins_given o ≡ (head_is (is EQUALS) o || head_is (is OF) o)
    given_begins None = refl
    given_begins (Some c) = among_union plain_fix (just EQUALS) (just OF) c ∙ (ap (λ (b : Bool). b || tokens_of (just OF) c) (sym (is_just plain_fix EQUALS c)) ∙ ap (λ (b : Bool). is EQUALS c || b) (sym (is_just plain_fix OF c)))

    pub given_same : (s : List Token) → head_is (is EQUALS) (first s) ≡ true
        → mapped (λ g. exbind_of (made, g)) (optional begins_given (given_read fix (ty_read h) h)) s ≡ mapped (λ n. exbind_of (made, Some (Given.Same n))) (levels.same fix) s
    given_same s i =
        let begins : head_is begins_given (first s) ≡ true = given_begins (first s) ∙ rw i refl in
        rw begins (rw i (go (levels.same fix s)))
      where
        go : (r : Answer Token Name) → remade (λ g. exbind_of (made, g)) (remade (λ x. Some x) (remade Given.Same r)) ≡ remade (λ n. exbind_of (made, Some (Given.Same n))) r
        go (Ok x) = refl
        go (Err d) = refl
