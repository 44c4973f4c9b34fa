-- The readers of parts, where the code hands on what another function gives.
use Rattle.std.proofs.Common.{◌≡◌, ℕ, ◌≤◌, Bool, true, false, ◌||◌, if◌then◌else◌, List, Option, Some, None, Ok, Err, refl, sym, ap, ◌∙◌, arith}
use Rattle.tl_text.specs.declared.place.Place.{Place}
use Rattle.readers.specs.declared.code.Code.TheVariants.{Grammar}
use Rattle.readers.specs.Reader.{first, head_is, Answer, Reader, ◌>>=◌, mapped, both, bound, one, skip, token_by, row, steps, only, else_by}
use Rattle.readers.specs.Infix.{ups}
use Rattle.readers.specs.Forms.{ended, nothing, seps}
use Rattle.readers.proofs.Choice.{remade, only_is}
use Rattle.readers.proofs.RowLoop.{first_turn, row_more, row_done, row_fails}
use Rattle.sml_lex.specs.declared.token.Token.{Token}
use Rattle.sml_grammar.specs.Words.{AND, BAR, COLON, DATATYPE, EQTYPE, EQUALS, EXCEPTION, INCLUDE, SHARING, STRUCTURE, TYPE, VAL}
use Rattle.sml_grammar.specs.Tokens.{is, just, the, tokens_of, plain_fix, long_strid, long_tycon, tycon, tycons}
use Rattle.sml_grammar.specs.Types.{Ident}
use Rattle.sml_grammar.specs.ReadTypes.{ty_read}
use Rattle.sml_grammar.proofs.Sets.{among_union, apart_is, is_just}
use Rattle.sml_grammar_sig.specs.Descs.{Named, real_bind_of}
use Rattle.sml_grammar_sig.specs.ReadDescs.{Data, Right, begins_con, begins_real, begins_vars, con_read, cons_level, cons_read, descs_read, many_read, named_read, real_bind_level, real_bind_read, right_of, under_read, vars_data}
use Rattle.sml_grammar_sig.specs.Sigs.{Shared, Sp, Sx, eqtypes_of, exns_of, is_real, sharing_in, sharing_of, strs_of, vals_of}
use Rattle.sml_grammar_sig.specs.ReadSigs as read
use Rattle.sml_grammar_sig.specs.ReadSigs.{Suffix, all_suffixed, bare_name, begins_behind, below, behind_read, data_of, equal_read, further_read, goes_on, head_read, include_read, included_of, sharing_read, sig_level, spec_goes, strs_level, suffix_read, suffixed, there_read, turn_by, types_of, val_read}
use Rattle.sml_parse_bind.proofs.Nodes.{else_closed, else_in, else_node, else_skip, only_closed, past}
use Rattle.sml_parse_bind.proofs.Steps.{behind_ended, behind_first, ended_mapped, mapped_mapped}
use Rattle.sml_parse_sig.specs.declared.parts.Behind.{Behind}
use Rattle.sml_parse_sig.specs.Levels as levels
use Rattle.sml_parse_sig.specs.Rows as rows
use Rattle.sml_parse_sig.proofs.Steps.{and_named_less, real_is}

abbrev paired : {K S T : Type 0} → S → T → List K → Answer K (S × T)
paired x y s = Ok ((x, y), s)

-- what may not follow, where the tree is made in two steps
ended_through : {K S T U : Type 0} (f : S → T) (g : T → U) (test : K → Bool) (p : Reader K S) (s : List K) → mapped (λ x. g (f x)) (ended test p) s ≡ mapped g (ended test (mapped f p)) s
ended_through f g test p s = sym (mapped_mapped f g (ended test p) s) ∙ ap (remade g) (ended_mapped f test p s)

-- the same where the second part alone is made anew
both_mapped : {K S T U : Type 0} (f : T → U) (p : Reader K S) (q : Reader K T) (s : List K) → mapped (λ x. (x.0, f x.1)) (both p q) s ≡ both p (mapped f q) s
both_mapped {K} {S} {T} {U} f p q s = go (p s)
  where
    next : (x : S) (r : Answer K T) → remade (λ y. (y.0, f y.1)) (r >>= λ y. paired x y.0 y.1) ≡ (remade f r >>= λ y. paired x y.0 y.1)
    next x (Ok y) = refl
    next x (Err e) = refl

    go : (r : Answer K S) → remade (λ y. (y.0, f y.1)) (r >>= λ x. q x.1 >>= λ y. paired x.0 y.0 y.1) ≡ (r >>= λ x. remade f (q x.1) >>= λ y. paired x.0 y.0 y.1)
    go (Ok x) = next x.0 (q x.1)
    go (Err e) = refl

made_alike : {K S T : Type 0} (f g : S → T) → ((x : S) → f x ≡ g x) → (r : Answer K S) → remade f r ≡ remade g r
made_alike f g same (Ok x) = ap (λ (t : _). Ok (t, x.1)) (same x.0)
made_alike f g same (Err e) = refl

abbrev open_at : {K T : Type 0} → (K → Bool) → Answer K T → Answer K T
open_at test r = r >>= λ x. if head_is test (first x.1) then Err (Grammar, x.1) else Ok x

-- ---- rows without heights, and the height of the highest

module _ (h : ℕ) (s : List Token) where
  pub described_are : cons_level (ty_read h) h s ≡ mapped rows.described (mapped rows.cons (seps (is BAR) (con_read (ty_read h) h))) s
  described_are = sym (mapped_mapped rows.cons rows.described (seps (is BAR) (con_read (ty_read h) h)) s)

  module _ (place : Place) where
    pub exceptions_are : mapped (λ x. exns_of (place, x)) (ended (tokens_of spec_goes) (seps (is AND) (con_read (ty_read h) h))) s
        ≡ mapped (rows.exceptions place) (ended (tokens_of spec_goes) (mapped rows.cons (seps (is AND) (con_read (ty_read h) h)))) s
    exceptions_are = ended_through rows.cons (rows.exceptions place) (tokens_of spec_goes) (seps (is AND) (con_read (ty_read h) h)) s

    pub values_are : mapped (λ x. vals_of (place, x)) (ended (tokens_of spec_goes) (seps (is AND) (val_read (ty_read h)))) s
        ≡ mapped (rows.values place) (ended (tokens_of spec_goes) (mapped rows.vals (seps (is AND) (val_read (ty_read h))))) s
    values_are = ended_through rows.vals (rows.values place) (tokens_of spec_goes) (seps (is AND) (val_read (ty_read h))) s

-- ---- types that are made equal

pub real_parts_are : (h : ℕ) (s : List Token) → head_is begins_real (first s) ≡ true → 1 ≤ h → real_bind_level (ty_read h) h s ≡ levels.real_parts h s
real_parts_are h s i le = only_is begins_real 1 (mapped real_bind_of (under_read (both (token_by long_tycon) (skip (is EQUALS) (ty_read h))))) h s i le ∙ real_is h s

-- ---- a signature, and the types behind it

pub sig_grown : (h : ℕ) (head : Reader Token Sx) (s rest : List Token) (x : Sx) → head s ≡ Ok (x, rest) → sig_level head (real_bind_read h) h s ≡ levels.grown h x rest
sig_grown h head s rest x e = rw e (go (steps goes_on suffixed (suffix_read (real_bind_read h) h) x rest))
  where
    go : (r : Answer Token (List Suffix)) → remade all_suffixed (r >>= λ y. paired x y.0 y.1) ≡ remade (ups suffixed x) r
    go (Ok y) = refl
    go (Err e) = refl

-- ---- what follows an identifier with its signature

module _ (word n h : ℕ) (s : List Token) where
  turn_and : (b : Bool) (rest : List Token) → head_is (is AND) (first s) ≡ true → one (is AND) s ≡ Ok (tt, rest) → turn_by b word (head_read h) (real_bind_read h) n h s ≡ levels.further word b n h rest
  turn_and true rest i e = rw i (rw e refl)
  turn_and false rest i e = rw i (rw e refl)

  turn_there : (b : Bool) → head_is (is AND) (first s) ≡ false → turn_by b word (head_read h) (real_bind_read h) n h s ≡ there_read (real_bind_read h) n h s
  turn_there true i = rw i refl
  turn_there false i = rw i refl

-- as the code asks whether it ends with `where`, and for the room that is needed
module _ (word h : ℕ) (x : Sx) (n : ℕ) (same : n ≡ below x) (s : List Token) where
  pub turn_further : (b : Bool) (rest : List Token) → b ≡ is_real x → head_is (is AND) (first s) ≡ true → one (is AND) s ≡ Ok (tt, rest) → levels.turn word h x s ≡ levels.further word b n h rest
  turn_further b rest j i e =
      turn_and word (below x) h s (is_real x) rest i e
      ∙ sym (ap (λ (q : Bool). levels.further word q n h rest) j ∙ ap (λ (m : ℕ). levels.further word (is_real x) m h rest) same)

  pub turn_where : head_is (is AND) (first s) ≡ false → levels.turn word h x s ≡ there_read (real_bind_read h) n h s
  turn_where i = turn_there word (below x) h s (is_real x) i ∙ sym (ap (λ (m : ℕ). there_read (real_bind_read h) m h s) same)

-- ---- what follows `datatype`

module _ (h : ℕ) (place : Place) where
  pub right_copied : (name : Ident) (s : List Token) → head_is (is DATATYPE) (first s) ≡ true
      → mapped (λ x. data_of (place, right_of (name, x))) (levels.right h) s ≡ mapped (λ c. data_of (place, Data.Copied (name, c))) (ended (tokens_of spec_goes) (skip (is DATATYPE) (token_by long_tycon))) s
  right_copied name s i =
      let copies : Reader Token _ = ended (tokens_of spec_goes) (skip (is DATATYPE) (token_by long_tycon)) in
      ap (remade (λ x. data_of (place, right_of (name, x))))
      (else_in (is DATATYPE) 0 (mapped Right.Copies copies) (only begins_con 1 (mapped Right.Cons (ended (tokens_of spec_goes) (descs_read (cons_read h)))) h) h s i (omega arith))
      ∙ mapped_mapped Right.Copies (λ x. data_of (place, right_of (name, x))) copies s

  pub data_named : (name : Ident) (s rest after : List Token) → head_is (tokens_of tycons) (first s) ≡ true → token_by tycon s ≡ Ok (name, rest) → one (is EQUALS) rest ≡ Ok (tt, after)
      → mapped (λ x. data_of (place, x)) (levels.datas h) s ≡ mapped (λ x. data_of (place, right_of (name, x))) (levels.right h) after
  data_named name s rest after i e o =
      let made = both (token_by tycon) (skip (is EQUALS) (levels.right h)) in
      ap (remade (λ x. data_of (place, x))) (else_in (tokens_of tycons) 0 (mapped right_of made) (only begins_vars 1 (mapped vars_data (levels.datatypes_under h)) h) h s i (omega arith))
      ∙ (mapped_mapped right_of (λ x. data_of (place, x)) made s
      ∙ (behind_first (λ x. data_of (place, right_of x)) (token_by tycon) (skip (is EQUALS) (levels.right h)) s rest name e
      ∙ ap (remade (λ x. data_of (place, right_of (name, x)))) (past (is EQUALS) (levels.right h) rest after o)))

  pub data_under : (s : List Token) → head_is (tokens_of tycons) (first s) ≡ false → head_is begins_vars (first s) ≡ true → 1 ≤ h
      → mapped (λ x. data_of (place, x)) (levels.datas h) s ≡ mapped (λ x. data_of (place, vars_data x)) (levels.datatypes_under h) s
  data_under s i j le =
      let made = mapped vars_data (levels.datatypes_under h) in
      ap (remade (λ x. data_of (place, x)))
      (else_skip (tokens_of tycons) 0 (mapped right_of (both (token_by tycon) (skip (is EQUALS) (levels.right h)))) (only begins_vars 1 made h) h s i
      ∙ only_is begins_vars 1 made h s j le)
      ∙ mapped_mapped vars_data (λ x. data_of (place, x)) (levels.datatypes_under h) s

-- ---- what `sharing` makes equal

module _ (place : Place) (s : List Token) where
  pub shared_types : (rest : List Token) → head_is (is TYPE) (first s) ≡ true → one (is TYPE) s ≡ Ok (tt, rest) → mapped (sharing_in place) levels.shared s ≡ mapped (λ x. sharing_in place (Shared.OfTypes x)) (equal_read (token_by long_tycon)) rest
  shared_types rest i e =
      let equal = equal_read (token_by long_tycon) in
      let here : levels.shared s ≡ mapped Shared.OfTypes (skip (is TYPE) equal) s = rw i refl in
      ap (remade (sharing_in place)) here
      ∙ (mapped_mapped Shared.OfTypes (sharing_in place) (skip (is TYPE) equal) s
      ∙ ap (remade (λ x. sharing_in place (Shared.OfTypes x))) (past (is TYPE) equal s rest e))

  pub shared_structures : head_is (is TYPE) (first s) ≡ false → mapped (sharing_in place) levels.shared s ≡ mapped (λ x. sharing_in place (Shared.OfStructures x)) (equal_read (token_by long_strid)) s
  shared_structures i =
      let equal = equal_read (token_by long_strid) in
      let here : levels.shared s ≡ mapped Shared.OfStructures equal s = rw i refl in
      ap (remade (sharing_in place)) here ∙ mapped_mapped Shared.OfStructures (sharing_in place) equal s

pub sharing_is : (place : Place) (s : List Token) → mapped (λ x. sharing_of (place, x)) (ended (tokens_of spec_goes) levels.shared) s ≡ mapped rows.sharing (ended (tokens_of spec_goes) (mapped (sharing_in place) levels.shared)) s
sharing_is place s = ended_through (sharing_in place) rows.sharing (tokens_of spec_goes) levels.shared s

-- ---- what follows the first name behind `type`

begins_either : (o : Option Token) → head_is begins_behind o ≡ (head_is (is AND) o || head_is (is EQUALS) o)
begins_either None = refl
begins_either (Some c) =
    among_union plain_fix (just AND) (just EQUALS) c
    ∙ (ap (λ (b : Bool). b || tokens_of (just EQUALS) c) (sym (is_just plain_fix AND c)) ∙ ap (λ (b : Bool). is AND c || b) (sym (is_just plain_fix EQUALS c)))

no_and : (o : Option Token) → head_is (is EQUALS) o ≡ true → head_is (is AND) o ≡ false
no_and None e = refl
no_and (Some c) e = is_just plain_fix AND c ∙ apart_is plain_fix plain_fix (just EQUALS) (just AND) refl c (sym (is_just plain_fix EQUALS c) ∙ e)

-- one or more of a row, as the row itself reads them
many_is : (s : List Token) → head_is (is AND) (first s) ≡ true → many_read (is AND) (skip (is AND) named_read) s ≡ row (is AND) (skip (is AND) named_read) s
many_is s i = go (skip (is AND) named_read s) refl
  where
    go : (r : Answer Token Named) → skip (is AND) named_read s ≡ r → many_read (is AND) (skip (is AND) named_read) s ≡ row (is AND) (skip (is AND) named_read) s
    go (Ok z) e = first_turn (is AND) (skip (is AND) named_read) and_named_less s z e ∙ sym (row_more (is AND) (skip (is AND) named_read) and_named_less s z i e)
    go (Err e) f = rw f refl ∙ sym (row_fails (is AND) (skip (is AND) named_read) and_named_less s e i f)

module _ (h : ℕ) (s : List Token) where
  some_is : head_is begins_behind (first s) ≡ true → mapped rows.some_behind (levels.behind_name h) s ≡ mapped rows.behind (behind_read (ty_read h) h) s
  some_is i =
      ap (remade rows.some_behind) (else_in begins_behind 0 (mapped (λ x. Some x) (behind_read (ty_read h) h)) (nothing None) h s i (omega arith))
      ∙ mapped_mapped (λ x. Some x) rows.some_behind (behind_read (ty_read h) h) s

  abbrev names : Reader Token read.Behind
  names = mapped read.Behind.Names (many_read (is AND) (skip (is AND) named_read))

  pub behind_equal : head_is (is EQUALS) (first s) ≡ true → mapped rows.some_behind (levels.behind_name h) s ≡ mapped rows.behind (levels.equal h) s
  behind_equal i =
      let none = no_and (first s) i in
      some_is (begins_either (first s) ∙ rw none i) ∙ ap (remade rows.behind) (else_skip (is AND) 0 names (levels.equal h) h s none)

  pub behind_names : head_is (is EQUALS) (first s) ≡ false → mapped rows.some_behind (levels.behind_name h) s ≡ mapped rows.names_behind (row (is AND) (skip (is AND) named_read)) s
  behind_names i = go (head_is (is AND) (first s)) refl
    where
      go : (b : Bool) → head_is (is AND) (first s) ≡ b → mapped rows.some_behind (levels.behind_name h) s ≡ mapped rows.names_behind (row (is AND) (skip (is AND) named_read)) s
      go true j =
          some_is (begins_either (first s) ∙ rw j refl)
          ∙ (ap (remade rows.behind) (else_in (is AND) 0 names (levels.equal h) h s j (omega arith))
          ∙ (mapped_mapped read.Behind.Names rows.behind (many_read (is AND) (skip (is AND) named_read)) s
          ∙ ap (remade rows.names_behind) (many_is s j)))
      go false j =
          ap (remade rows.some_behind) (else_skip begins_behind 0 (mapped (λ x. Some x) (behind_read (ty_read h) h)) (nothing None) h s (begins_either (first s) ∙ rw j i))
          ∙ sym (ap (remade rows.names_behind) (row_done (is AND) (skip (is AND) named_read) and_named_less s j))

types_same : (place : Place) (x : Named) (y : Option read.Behind) → types_of (place, (x, y)) ≡ rows.types place x (rows.some_behind y)
types_same place x None = refl
types_same place x (Some (read.Behind.Names xs)) = refl
types_same place x (Some (read.Behind.Equal z)) = refl

pub types_are : (h : ℕ) (place : Place) (s : List Token)
    → mapped (λ x. types_of (place, x)) (levels.types h) s
    ≡ mapped (λ x. rows.types place x.0 x.1) (ended (tokens_of spec_goes) (both named_read (mapped rows.some_behind (levels.behind_name h)))) s
types_are h place s =
    let parts = both named_read (levels.behind_name h) in
    made_alike (λ x. types_of (place, x)) (λ x. rows.types place x.0 (rows.some_behind x.1)) (λ x. types_same place x.0 x.1) (ended (tokens_of spec_goes) parts s)
    ∙ (ended_through (λ x. (x.0, rows.some_behind x.1)) (λ x. rows.types place x.0 x.1) (tokens_of spec_goes) parts s
    ∙ ap (λ (r : Answer Token (Named × (Behind × ℕ))). remade (λ x. rows.types place x.0 x.1) (open_at (tokens_of spec_goes) r)) (both_mapped rows.some_behind named_read (levels.behind_name h) s))

-- ---- specifications, behind the word that begins them

module _ (h : ℕ) where
  abbrev vals : Reader Token Sp
  vals = mapped vals_of (ended (tokens_of spec_goes) (both (token_by (the VAL)) (seps (is AND) (val_read (ty_read h)))))

  abbrev strs : Reader Token Sp
  strs = mapped strs_of (ended (tokens_of spec_goes) (both (token_by (the STRUCTURE)) (strs_level COLON (head_read h) (real_bind_read h) h)))

  abbrev types : Reader Token Sp
  types = mapped types_of (ended (tokens_of spec_goes) (both (token_by (the TYPE)) (both named_read (levels.behind_name h))))

  abbrev datas : Reader Token Sp
  datas = mapped data_of (both (token_by (the DATATYPE)) (levels.datas h))

  abbrev exns : Reader Token Sp
  exns = mapped exns_of (ended (tokens_of spec_goes) (both (token_by (the EXCEPTION)) (seps (is AND) (con_read (ty_read h) h))))

  abbrev eqtypes : Reader Token Sp
  eqtypes = mapped eqtypes_of (ended (tokens_of spec_goes) (both (token_by (the EQTYPE)) (seps (is AND) named_read)))

  abbrev from_exns : Reader Token Sp
  from_exns = else_by (is EXCEPTION) 0 exns (levels.with_signatures h) h

  abbrev from_datas : Reader Token Sp
  from_datas = else_by (is DATATYPE) 0 datas from_exns h

  abbrev from_sharing : Reader Token Sp
  from_sharing = else_by (is SHARING) 0 sharing_read (levels.with_types h) h

  others_are : (s : List Token) → head_is (is INCLUDE) (first s) ≡ false → levels.spec h s ≡ levels.others h s
  others_are s i = rw i refl

  module _ (place : Place) (s rest : List Token) where
    pub values_in : head_is (is VAL) (first s) ≡ true → 1 ≤ h → token_by (the VAL) s ≡ Ok (place, rest)
        → levels.with_signatures h s ≡ mapped (λ x. vals_of (place, x)) (ended (tokens_of spec_goes) (seps (is AND) (val_read (ty_read h)))) rest
    values_in i le e = else_closed VAL 1 vals_of (seps (is AND) (val_read (ty_read h))) h s rest place i le e (tokens_of spec_goes) (only (is STRUCTURE) 1 strs h)

    pub structures_in : head_is (is VAL) (first s) ≡ false → head_is (is STRUCTURE) (first s) ≡ true → 1 ≤ h → token_by (the STRUCTURE) s ≡ Ok (place, rest)
        → levels.with_signatures h s ≡ mapped (λ x. strs_of (place, x)) (levels.structures h) rest
    structures_in i j le e = else_skip (is VAL) 1 vals (only (is STRUCTURE) 1 strs h) h s i ∙ only_closed STRUCTURE 1 strs_of (strs_level COLON (head_read h) (real_bind_read h) h) h s rest place j le e (tokens_of spec_goes)

    pub types_in : head_is (is TYPE) (first s) ≡ true → token_by (the TYPE) s ≡ Ok (place, rest) → levels.with_types h s ≡ mapped (λ x. types_of (place, x)) (levels.types h) rest
    types_in i e = else_closed TYPE 0 types_of (both named_read (levels.behind_name h)) h s rest place i (omega arith) e (tokens_of spec_goes) from_datas

    pub datas_in : head_is (is TYPE) (first s) ≡ false → head_is (is DATATYPE) (first s) ≡ true → token_by (the DATATYPE) s ≡ Ok (place, rest) → levels.with_types h s ≡ mapped (λ x. data_of (place, x)) (levels.datas h) rest
    datas_in i j e = else_skip (is TYPE) 0 types from_datas h s i ∙ else_node DATATYPE 0 data_of (levels.datas h) h s rest place j (omega arith) e from_exns

    pub exns_in : head_is (is TYPE) (first s) ≡ false → head_is (is DATATYPE) (first s) ≡ false → head_is (is EXCEPTION) (first s) ≡ true → token_by (the EXCEPTION) s ≡ Ok (place, rest)
        → levels.with_types h s ≡ mapped (λ x. exns_of (place, x)) (ended (tokens_of spec_goes) (seps (is AND) (con_read (ty_read h) h))) rest
    exns_in i j k e =
        else_skip (is TYPE) 0 types from_datas h s i
        ∙ (else_skip (is DATATYPE) 0 datas from_exns h s j
        ∙ else_closed EXCEPTION 0 exns_of (seps (is AND) (con_read (ty_read h) h)) h s rest place k (omega arith) e (tokens_of spec_goes) (levels.with_signatures h))

    pub include_in : head_is (is INCLUDE) (first s) ≡ true → token_by (the INCLUDE) s ≡ Ok (place, rest) → levels.spec h s ≡ mapped (λ x. included_of (place, x)) (levels.include h) rest
    include_in i e = rw i (behind_ended included_of (tokens_of spec_goes) (token_by (the INCLUDE)) (bound (levels.lean h) (λ s. further_read (bare_name s))) s rest place e)

    pub eqtypes_in : head_is (is INCLUDE) (first s) ≡ false → head_is (is EQTYPE) (first s) ≡ true → token_by (the EQTYPE) s ≡ Ok (place, rest)
        → levels.spec h s ≡ mapped (λ x. eqtypes_of (place, x)) (ended (tokens_of spec_goes) (seps (is AND) named_read)) rest
    eqtypes_in i j e = others_are s i ∙ else_closed EQTYPE 0 eqtypes_of (seps (is AND) named_read) h s rest place j (omega arith) e (tokens_of spec_goes) from_sharing

    pub sharing_of_in : head_is (is INCLUDE) (first s) ≡ false → head_is (is EQTYPE) (first s) ≡ false → head_is (is SHARING) (first s) ≡ true → token_by (the SHARING) s ≡ Ok (place, rest)
        → levels.spec h s ≡ mapped (λ x. sharing_of (place, x)) (ended (tokens_of spec_goes) levels.shared) rest
    sharing_of_in i j k e =
        others_are s i
        ∙ (else_skip (is EQTYPE) 0 eqtypes from_sharing h s j ∙ else_closed SHARING 0 sharing_of levels.shared h s rest place k (omega arith) e (tokens_of spec_goes) (levels.with_types h))
