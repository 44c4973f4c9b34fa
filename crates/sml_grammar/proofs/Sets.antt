-- Sets of tokens: unions, and that two have no token in common, which is computed.
use Rattle.std.proofs.Common.{◌≡◌, ℕ, ◌≤◌, max, Bool, true, false, not, ◌&&◌, ◌||◌, eqb, List, [], ◌∷◌, ◌++◌, Option, refl, sym, ap, ◌∙◌, if◌then◌else◌}
use Rattle.std.proofs.lemmas.Bool.{eqb-true}
use Rattle.readers.specs.Reader.{Reader, else_by}
use Rattle.readers.specs.Forms.{else_if}
use Rattle.readers.specs.Language.{Or}
use Rattle.readers.specs.Room.{Room}
use Rattle.readers.proofs.Bundle.{Known, Phrase}
use Rattle.readers.proofs.Choose.{choice, choice_if, retested}
use Rattle.readers.proofs.Row.{both_true}
use Rattle.sml_lex.specs.declared.token.Token.{Token}
use Rattle.sml_lex.specs.declared.token.Kind.{Kind}
use Rattle.sml_lex.specs.declared.token.Kind.TheVariants as kind
use Rattle.sml_fix.specs.Fixities.{Settings}
use Rattle.sml_grammar.specs.Tokens.{Firsts, firsts, union, just, listed, path_class, lit_class, is_infix, kind_among, among, is, kind_is, TYVAR, LAST}

listed_both : (n : ℕ) (ms ks : List ℕ) → listed n (ms ++ ks) ≡ (listed n ms || listed n ks)
listed_both n [] ks = refl
listed_both n (m ∷ ms) ks = go (eqb n m) (listed_both n ms ks)
  where
    go : (b : Bool) → listed n (ms ++ ks) ≡ (listed n ms || listed n ks) → (b || listed n (ms ++ ks)) ≡ ((b || listed n ms) || listed n ks)
    go true e = refl
    go false e = e

kind_union : (fix : Settings) (a b : Firsts) (d : Bool) (k : Kind) → kind_among fix (union a b) d k ≡ (kind_among fix a d k || kind_among fix b d k)
kind_union fix a b d (kind.Word n) = listed_both n a.words b.words
kind_union fix a b d (kind.Id parts) = go (is_infix fix parts)
  where
    go : (i : Bool) → listed (path_class parts) (if i then (a.ops ++ b.ops) else (a.plain ++ b.plain))
        ≡ (listed (path_class parts) (if i then a.ops else a.plain) || listed (path_class parts) (if i then b.ops else b.plain))
    go true = listed_both (path_class parts) a.ops b.ops
    go false = listed_both (path_class parts) a.plain b.plain
kind_union fix a b d (kind.Tyvar v) = listed_both TYVAR a.plain b.plain
kind_union fix a b d (kind.Lit l) = listed_both (lit_class d l) a.plain b.plain
kind_union fix a b d kind.End = listed_both LAST a.plain b.plain

pub among_union : (fix : Settings) (a b : Firsts) (t : Token) → among fix (union a b) t ≡ (among fix a t || among fix b t)
among_union fix a b t = kind_union fix a b t.decimal t.kind

-- ---- words

kind_just : (fix : Settings) (k : ℕ) (d : Bool) (i : Kind) → kind_is k i ≡ kind_among fix (just k) d i
kind_just fix k d (kind.Word n) = go (eqb n k)
  where
    go : (b : Bool) → b ≡ (b || false)
    go true = refl
    go false = refl
kind_just fix k d (kind.Id parts) = go (is_infix fix parts)
  where
    go : (b : Bool) → false ≡ listed (path_class parts) (if b then [] else [])
    go true = refl
    go false = refl
kind_just fix k d (kind.Tyvar v) = refl
kind_just fix k d (kind.Lit l) = refl
kind_just fix k d kind.End = refl

pub is_just : (fix : Settings) (k : ℕ) (t : Token) → is k t ≡ among fix (just k) t
is_just fix k t = kind_just fix k t.decimal t.kind

-- ---- nothing in common

abbrev pub disjoint : List ℕ → List ℕ → Bool
disjoint [] ks = true
disjoint (m ∷ ms) ks = not (listed m ks) && disjoint ms ks

-- under any fixities
abbrev pub apart : Firsts → Firsts → Bool
apart a b = disjoint a.words b.words && disjoint (a.plain ++ a.ops) (b.plain ++ b.ops)

not_listed : (m : ℕ) (ks : List ℕ) → not (listed m ks) ≡ true → listed m ks ≡ false
not_listed m ks e = go (listed m ks) e
  where
    go : (b : Bool) → not b ≡ true → b ≡ false
    go true e = absurd cc
    go false e = refl

disjoint_is : (ms ks : List ℕ) → disjoint ms ks ≡ true → (n : ℕ) → listed n ms ≡ true → listed n ks ≡ false
disjoint_is [] ks e n i = absurd cc
disjoint_is (m ∷ ms) ks e n i = go (eqb n m) refl i (λ j. disjoint_is ms ks (both_true (not (listed m ks)) (disjoint ms ks) e).1 n j)
  where
    two : (not (listed m ks) ≡ true) × (disjoint ms ks ≡ true)
    two = both_true (not (listed m ks)) (disjoint ms ks) e

    go : (b : Bool) → eqb n m ≡ b → (b || listed n ms) ≡ true → (listed n ms ≡ true → listed n ks ≡ false) → listed n ks ≡ false
    go true j i f = ap (λ (x : ℕ). listed x ks) (eqb-true n m j) ∙ not_listed m ks two.0
    go false j i f = f i

in_left : (n : ℕ) (ms ks : List ℕ) → listed n ms ≡ true → listed n (ms ++ ks) ≡ true
in_left n ms ks e = listed_both n ms ks ∙ rw e refl

in_right : (n : ℕ) (ms ks : List ℕ) → listed n ks ≡ true → listed n (ms ++ ks) ≡ true
in_right n ms ks e = listed_both n ms ks ∙ go (listed n ms)
  where
    go : (b : Bool) → (b || listed n ks) ≡ true
    go true = refl
    go false = e

out_left : (n : ℕ) (ms ks : List ℕ) → listed n (ms ++ ks) ≡ false → listed n ms ≡ false
out_left n ms ks e = go (listed n ms) (sym (listed_both n ms ks) ∙ e)
  where
    go : (b : Bool) → (b || listed n ks) ≡ false → b ≡ false
    go true e = absurd cc
    go false e = refl

out_right : (n : ℕ) (ms ks : List ℕ) → listed n (ms ++ ks) ≡ false → listed n ks ≡ false
out_right n ms ks e = go (listed n ms) (sym (listed_both n ms ks) ∙ e)
  where
    go : (b : Bool) → (b || listed n ks) ≡ false → listed n ks ≡ false
    go true e = absurd cc
    go false e = e

pub in_either : (i : Bool) (n : ℕ) (a : Firsts) → listed n (if i then a.ops else a.plain) ≡ true → listed n (a.plain ++ a.ops) ≡ true
in_either true n a e = in_right n a.plain a.ops e
in_either false n a e = in_left n a.plain a.ops e

out_either : (i : Bool) (n : ℕ) (a : Firsts) → listed n (a.plain ++ a.ops) ≡ false → listed n (if i then a.ops else a.plain) ≡ false
out_either true n a e = out_right n a.plain a.ops e
out_either false n a e = out_left n a.plain a.ops e

kind_apart : (f g : Settings) (a b : Firsts) → apart a b ≡ true → (d : Bool) (k : Kind) → kind_among f a d k ≡ true → kind_among g b d k ≡ false
kind_apart f g a b e d k i = go k i
  where
    two : (disjoint a.words b.words ≡ true) × (disjoint (a.plain ++ a.ops) (b.plain ++ b.ops) ≡ true)
    two = both_true (disjoint a.words b.words) (disjoint (a.plain ++ a.ops) (b.plain ++ b.ops)) e

    class_out : (n : ℕ) → listed n (a.plain ++ a.ops) ≡ true → listed n (b.plain ++ b.ops) ≡ false
    class_out n i = disjoint_is (a.plain ++ a.ops) (b.plain ++ b.ops) two.1 n i

    go : (k : Kind) → kind_among f a d k ≡ true → kind_among g b d k ≡ false
    go (kind.Word n) i = disjoint_is a.words b.words two.0 n i
    go (kind.Id parts) i = out_either (is_infix g parts) (path_class parts) b (class_out (path_class parts) (in_either (is_infix f parts) (path_class parts) a i))
    go (kind.Tyvar v) i = out_left TYVAR b.plain b.ops (class_out TYVAR (in_left TYVAR a.plain a.ops i))
    go (kind.Lit l) i = out_left (lit_class d l) b.plain b.ops (class_out (lit_class d l) (in_left (lit_class d l) a.plain a.ops i))
    go kind.End i = out_left LAST b.plain b.ops (class_out LAST (in_left LAST a.plain a.ops i))

pub apart_is : (f g : Settings) (a b : Firsts) → apart a b ≡ true → (t : Token) → among f a t ≡ true → among g b t ≡ false
apart_is f g a b e t i = kind_apart f g a b e t.decimal t.kind i

-- ---- nothing in common under the same fixities

abbrev pub apart_here : Firsts → Firsts → Bool
apart_here a b = disjoint a.words b.words && (disjoint a.plain b.plain && disjoint a.ops b.ops)

pub apart_here_is : (f : Settings) (a b : Firsts) → apart_here a b ≡ true → (t : Token) → among f a t ≡ true → among f b t ≡ false
apart_here_is f a b e t i = go t.kind i
  where
    two : (disjoint a.words b.words ≡ true) × ((disjoint a.plain b.plain && disjoint a.ops b.ops) ≡ true)
    two = both_true (disjoint a.words b.words) (disjoint a.plain b.plain && disjoint a.ops b.ops) e

    three : (disjoint a.plain b.plain ≡ true) × (disjoint a.ops b.ops ≡ true)
    three = both_true (disjoint a.plain b.plain) (disjoint a.ops b.ops) two.1

    class : (j : Bool) (n : ℕ) → listed n (if j then a.ops else a.plain) ≡ true → listed n (if j then b.ops else b.plain) ≡ false
    class true n i = disjoint_is a.ops b.ops three.1 n i
    class false n i = disjoint_is a.plain b.plain three.0 n i

    go : (k : Kind) → kind_among f a t.decimal k ≡ true → kind_among f b t.decimal k ≡ false
    go (kind.Word n) i = disjoint_is a.words b.words two.0 n i
    go (kind.Id parts) i = class (is_infix f parts) (path_class parts) i
    go (kind.Tyvar v) i = class false TYVAR i
    go (kind.Lit l) i = class false (lit_class t.decimal l) i
    go kind.End i = class false LAST i

-- ---- choices by sets

-- a test is that of a set
abbrev pub Tests : Settings → Firsts → (Token → Bool) → Type 0
Tests fix a test = (t : Token) → test t ≡ among fix a t

apart_tests : (fix : Settings) (a b : Firsts) (tp tq : Token → Bool) → Tests fix a tp → Tests fix b tq → apart_here b a ≡ true → (c : Token) → tq c ≡ true → tp c ≡ false
apart_tests fix a b tp tq ta tb e c i = ta c ∙ apart_here_is fix b a e c (sym (tb c) ∙ i)

union_tests : (fix : Settings) (a b : Firsts) (tp tq : Token → Bool) → Tests fix a tp → Tests fix b tq → (c : Token) → (tp c || tq c) ≡ among fix (union a b) c
union_tests fix a b tp tq ta tb c = ap (λ (x : Bool). x || tq c) (ta c) ∙ (ap (λ (x : Bool). among fix a c || x) (tb c) ∙ sym (among_union fix a b c))

module _ {T : Type 0} {s : Known} {n up : ℕ} {D E : Room → T → List Token → Type 0} {p q : Room → Reader Token T} {st : T → Option Token → Bool} {td : T → ℕ} {ld nd le ne : ℕ} {tp tq : Token → Bool} {ed ee : ℕ} (fix : Settings) (a b : Firsts) where
  -- a choice by the token, with a test of the room
  pub pick : Tests fix a tp → Tests fix b tq → Phrase s n up D p st td ld nd tp ed → Phrase s n up E q st td le ne tq ee → (nd ≤ ld) → (ld ≤ le) → apart_here b a ≡ true
      → Phrase s n up (λ k. Or (D k) (E k)) (λ k. else_by tp ld (p k) (q k) k.height) st td ld ne (among fix (union a b)) (max (max ld ed) (max le ee))
  pick ta tb P Q small low e = retested (among fix (union a b)) (choice P Q small low (apart_tests fix a b tp tq ta tb e)) (union_tests fix a b tp tq ta tb)

  -- and without one
  pub pick_if : Tests fix a tp → Tests fix b tq → Phrase s n up D p st td ld nd tp ed → Phrase s n up E q st td le ne tq ee → (ld ≤ le) → apart_here b a ≡ true
      → Phrase s n up (λ k. Or (D k) (E k)) (λ k. else_if tp (p k) (q k)) st td ld (max nd ne) (among fix (union a b)) (max ed ee)
  pick_if ta tb P Q low e = retested (among fix (union a b)) (choice_if P Q low (apart_tests fix a b tp tq ta tb e)) (union_tests fix a b tp tq ta tb)
