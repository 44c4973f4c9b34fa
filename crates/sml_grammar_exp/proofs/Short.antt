-- Short names among the long ones, with `op` and without.
use Rattle.std.proofs.Common.{◌≡◌, if◌then◌else◌, ℕ, Bool, true, false, List, [], ◌∷◌, Option, Some, refl, sym, ap, ◌∙◌, ltb, eqb}
use Rattle.std.specs.Prelude.{ℤ, pos, negsuc}
use Rattle.readers.specs.Language.{Shows}
use Rattle.readers.proofs.Combine.{shown_test, shown_is}
use Rattle.tl_text.specs.declared.lit.Lit.{Lit}
use Rattle.tl_text.specs.declared.lit.Lit.TheVariants as lit
use Rattle.tl_text.specs.declared.place.Place.{Place}
use Rattle.sml_lex.specs.Bytes.{is_letter, first_is}
use Rattle.sml_lex.specs.declared.token.Token.{Token}
use Rattle.sml_lex.specs.declared.token.Kind.{Kind}
use Rattle.sml_lex.specs.declared.token.Kind.TheVariants as kind
use Rattle.sml_fix.specs.Fixities.{Settings}
use Rattle.sml_grammar.specs.Tokens.{among, plain_fix, tokens_of, kind_among, listed, name_class, long_class, lit_class, int_class, is_infix, is_star, parts_of, first_part, ident, long_ident, plain_names, plain_long_names, infix_names, op_names, op_long_names, vid, long_vid, op_vid, op_long_vid, ZERO, DIGIT, NUMBER, LITERAL, ALPHA, SYMBOL, STAR, LONG_ALPHA, LONG_SYMBOL, LONG_STAR}
use Rattle.sml_grammar.specs.Types.{Ident}

abbrev short_classes : List ℕ
short_classes = ALPHA ∷ SYMBOL ∷ STAR ∷ []

abbrev all_classes : List ℕ
all_classes = ALPHA ∷ SYMBOL ∷ STAR ∷ LONG_ALPHA ∷ LONG_SYMBOL ∷ LONG_STAR ∷ []

name_short : (v : List ℕ) → listed (name_class v) short_classes ≡ true
name_short v = go (first_is is_letter v) (is_star v)
  where
    go : (x y : Bool) → listed (if x then ALPHA else (if y then STAR else SYMBOL)) short_classes ≡ true
    go true y = refl
    go false true = refl
    go false false = refl

name_all : (v : List ℕ) → listed (name_class v) all_classes ≡ true
name_all v = go (first_is is_letter v) (is_star v)
  where
    go : (x y : Bool) → listed (if x then ALPHA else (if y then STAR else SYMBOL)) all_classes ≡ true
    go true y = refl
    go false true = refl
    go false false = refl

long_not : (p : List (List ℕ)) → listed (long_class p) short_classes ≡ false
long_not [] = refl
long_not (v ∷ []) = go (first_is is_letter v) (is_star v)
  where
    go : (x y : Bool) → listed (if x then LONG_ALPHA else (if y then LONG_STAR else LONG_SYMBOL)) short_classes ≡ false
    go true y = refl
    go false true = refl
    go false false = refl
long_not (v ∷ w ∷ p) = long_not (w ∷ p)

lit_not : (d : Bool) (l : Lit) → listed (lit_class d l) short_classes ≡ false
lit_not d (lit.Int n) = int_not d n
  where
    small : (x y z : Bool) → listed (if x then ZERO else (if y then DIGIT else (if z then NUMBER else LITERAL))) short_classes ≡ false
    small true y z = refl
    small false true z = refl
    small false false true = refl
    small false false false = refl

    int_not : (d : Bool) (n : ℤ) → listed (int_class d n) short_classes ≡ false
    int_not true (pos n) = small (eqb n 0) (ltb n 10) (ltb n 4294967296)
    int_not true (negsuc n) = refl
    int_not false n = refl
lit_not d (lit.Word n) = refl
lit_not d (lit.Char n) = refl
lit_not d (lit.Text t) = refl

no : {P : Type 0} {x : Bool} → x ≡ true → x ≡ false → P
no e f = let n : true ≡ false = sym e ∙ f in absurd cc

-- a short name without infix status is one of the long names, of one part
short_long : (fix : Settings) (d : Bool) (k : Kind) → kind_among fix plain_names d k ≡ true → (kind_among fix plain_long_names d k ≡ true) × (parts_of k ≡ first_part (parts_of k) ∷ [])
short_long fix d (kind.Word n) e = absurd cc
short_long fix d (kind.Id []) e = absurd cc
short_long fix d (kind.Id (v ∷ [])) e = (go (is_infix fix (v ∷ [])) e, refl)
  where
    go : (i : Bool) → listed (name_class v) (if i then plain_names.ops else plain_names.plain) ≡ true → listed (name_class v) (if i then plain_long_names.ops else plain_long_names.plain) ≡ true
    go true e = absurd cc
    go false e = name_all v
short_long fix d (kind.Id (v ∷ w ∷ p)) e = no e (long_not (w ∷ p))
short_long fix d (kind.Tyvar v) e = absurd cc
short_long fix d (kind.Lit l) e = no e (lit_not d l)
short_long fix d kind.End e = absurd cc

-- and the other way round
long_short : (fix : Settings) (d : Bool) (k : Kind) (v : List ℕ) → kind_among fix plain_long_names d k ≡ true → parts_of k ≡ v ∷ [] → kind_among fix plain_names d k ≡ true
long_short fix d (kind.Word n) v e p = absurd cc
long_short fix d (kind.Id []) v e p = absurd cc
long_short fix d (kind.Id (x ∷ [])) v e p = go (is_infix fix (x ∷ [])) e
  where
    go : (i : Bool) → listed (name_class x) (if i then plain_long_names.ops else plain_long_names.plain) ≡ true → listed (name_class x) (if i then plain_names.ops else plain_names.plain) ≡ true
    go true e = absurd cc
    go false e = name_short x
long_short fix d (kind.Id (x ∷ y ∷ s)) v e p = absurd cc
long_short fix d (kind.Tyvar x) v e p = absurd cc
long_short fix d (kind.Lit l) v e p = absurd cc
long_short fix d kind.End v e p = absurd cc

op_short_long : (d : Bool) (k : Kind) → kind_among plain_fix op_names d k ≡ true → (kind_among plain_fix op_long_names d k ≡ true) × (parts_of k ≡ first_part (parts_of k) ∷ [])
op_short_long d (kind.Word n) e = (e, refl)
op_short_long d (kind.Id []) e = absurd cc
op_short_long d (kind.Id (v ∷ [])) e = (name_all v, refl)
op_short_long d (kind.Id (v ∷ w ∷ p)) e = no e (long_not (w ∷ p))
op_short_long d (kind.Tyvar v) e = absurd cc
op_short_long d (kind.Lit l) e = no e (lit_not d l)
op_short_long d kind.End e = absurd cc

op_long_short : (d : Bool) (k : Kind) (v : List ℕ) → kind_among plain_fix op_long_names d k ≡ true → parts_of k ≡ v ∷ [] → kind_among plain_fix op_names d k ≡ true
op_long_short d (kind.Word n) v e p = e
op_long_short d (kind.Id []) v e p = absurd cc
op_long_short d (kind.Id (x ∷ [])) v e p = name_short x
op_long_short d (kind.Id (x ∷ y ∷ s)) v e p = absurd cc
op_long_short d (kind.Tyvar x) v e p = absurd cc
op_long_short d (kind.Lit l) v e p = absurd cc
op_long_short d kind.End v e p = absurd cc

abbrev the_some : {T : Type 0} → T → Option T
the_some x = Some x

some_is : {T : Type 0} {x y : T} → the_some x ≡ the_some y → x ≡ y
some_is e = cc

-- ---- as tokens

pub lengthened : (fix : Settings) (v : Ident) (w : List Token) → Shows (vid fix) v w → Shows (long_vid fix) (v.0, v.1 ∷ []) w
lengthened fix v w d =
    let i = shown_test (among fix plain_names) ident d.token v d.shows in
    let two = short_long fix d.token.decimal d.token.kind i in
    let same : ident d.token ≡ v = some_is (sym (shown_is (among fix plain_names) ident d.token i) ∙ d.shows) in
    let long : long_ident d.token ≡ (v.0, v.1 ∷ []) = ap (λ (p : List (List ℕ)). (d.token.place, p)) two.1 ∙ ap (λ (x : Ident). (x.0, x.1 ∷ [])) same in
    record { token = d.token; shows = shown_is (among fix plain_long_names) long_ident d.token two.0 ∙ ap (λ (x : Place × List (List ℕ)). Some x) long; whole = d.whole }

pub shortened : (fix : Settings) (v : Ident) (w : List Token) → Shows (long_vid fix) (v.0, v.1 ∷ []) w → Shows (vid fix) v w
shortened fix v w d =
    let i = shown_test (among fix plain_long_names) long_ident d.token (v.0, v.1 ∷ []) d.shows in
    let same : long_ident d.token ≡ (v.0, v.1 ∷ []) = some_is (sym (shown_is (among fix plain_long_names) long_ident d.token i) ∙ d.shows) in
    let parts : parts_of d.token.kind ≡ v.1 ∷ [] = ap (λ (x : Place × List (List ℕ)). x.1) same in
    let short = long_short fix d.token.decimal d.token.kind v.1 i parts in
    let all : ident d.token ≡ v = ap (λ (x : Place × List (List ℕ)). (x.0, first_part x.1)) same in
    record { token = d.token; shows = shown_is (among fix plain_names) ident d.token short ∙ ap (λ (x : Ident). Some x) all; whole = d.whole }

pub op_lengthened : (v : Ident) (w : List Token) → Shows op_vid v w → Shows op_long_vid (v.0, v.1 ∷ []) w
op_lengthened v w d =
    let i = shown_test (tokens_of op_names) ident d.token v d.shows in
    let two = op_short_long d.token.decimal d.token.kind i in
    let same : ident d.token ≡ v = some_is (sym (shown_is (tokens_of op_names) ident d.token i) ∙ d.shows) in
    let long : long_ident d.token ≡ (v.0, v.1 ∷ []) = ap (λ (p : List (List ℕ)). (d.token.place, p)) two.1 ∙ ap (λ (x : Ident). (x.0, x.1 ∷ [])) same in
    record { token = d.token; shows = shown_is (tokens_of op_long_names) long_ident d.token two.0 ∙ ap (λ (x : Place × List (List ℕ)). Some x) long; whole = d.whole }

pub op_shortened : (v : Ident) (w : List Token) → Shows op_long_vid (v.0, v.1 ∷ []) w → Shows op_vid v w
op_shortened v w d =
    let i = shown_test (tokens_of op_long_names) long_ident d.token (v.0, v.1 ∷ []) d.shows in
    let same : long_ident d.token ≡ (v.0, v.1 ∷ []) = some_is (sym (shown_is (tokens_of op_long_names) long_ident d.token i) ∙ d.shows) in
    let parts : parts_of d.token.kind ≡ v.1 ∷ [] = ap (λ (x : Place × List (List ℕ)). x.1) same in
    let short = op_long_short d.token.decimal d.token.kind v.1 i parts in
    let all : ident d.token ≡ v = ap (λ (x : Place × List (List ℕ)). (x.0, first_part x.1)) same in
    record { token = d.token; shows = shown_is (tokens_of op_names) ident d.token short ∙ ap (λ (x : Ident). Some x) all; whole = d.whole }

pub plain_is_long : (fix : Settings) (c : Token) → among fix plain_names c ≡ true → among fix plain_long_names c ≡ true
plain_is_long fix c e = (short_long fix c.decimal c.kind e).0

-- a short name that is an operator
pub operator_token : (fix : Settings) (d : Bool) (v : List ℕ) → is_infix fix (v ∷ []) ≡ true → kind_among fix infix_names d (kind.Id (v ∷ [])) ≡ true
operator_token fix d v e = rw e (name_short v)

-- an operator is an identifier with infix status
pub operator_is : (fix : Settings) (d : Bool) (k : Kind) → kind_among fix infix_names d k ≡ true → (v : List ℕ) × (is_infix fix (v ∷ []) ≡ true)
operator_is fix d (kind.Word n) e = absurd cc
operator_is fix d (kind.Id []) e = absurd cc
operator_is fix d (kind.Id (v ∷ [])) e = (v, go (is_infix fix (v ∷ [])) e)
  where
    go : (i : Bool) → listed (name_class v) (if i then infix_names.ops else infix_names.plain) ≡ true → i ≡ true
    go true e = refl
    go false e = absurd cc
operator_is fix d (kind.Id (v ∷ w ∷ p)) e = absurd cc
operator_is fix d (kind.Tyvar v) e = absurd cc
operator_is fix d (kind.Lit l) e = absurd cc
operator_is fix d kind.End e = absurd cc
