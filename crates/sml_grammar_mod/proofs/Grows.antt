-- What may stand behind a structure expression is read exactly: ascriptions, and types for the last one.
use Rattle.std.proofs.Common.{◌≡◌, ℕ, suc, max, Bool, true, false, not, ◌&&◌, List, [], ◌∷◌, Option, Some, refl, ap, ◌∙◌, arith}
use Rattle.readers.specs.Reader.{head_is, Reader}
use Rattle.readers.specs.Language.{Both, Passing, Shows, As, Or}
use Rattle.readers.specs.Room.{Room}
use Rattle.readers.specs.Exact.{always}
use Rattle.readers.specs.Forms.{growth}
use Rattle.readers.proofs.Bundle.{Known, Phrase}
use Rattle.readers.proofs.Combine.{phrase, made_phrase}
use Rattle.readers.proofs.Choose.{last}
use Rattle.sml_lex.specs.declared.token.Token.{Token}
use Rattle.sml_ast.specs.declared.sig.Ascribe.{Ascribe}
use Rattle.sml_ast.specs.declared.sig.Ascribe.TheVariants as ascribe
use Rattle.sml_ast.specs.declared.program.StrBind.TheOpen.{StrExp-F}
use Rattle.sml_ast.specs.declared.program.StrBind.{StrBind}
use Rattle.sml_ast.specs.declared.program.StrDec.{StrDec}
use Rattle.sml_ast.specs.declared.program.StrExp.{StrExp, out-StrExp}
use Rattle.sml_grammar.specs.Words.{COLON, OPEN_PAREN, SEAL, WHERE}
use Rattle.sml_grammar.specs.Tokens.{Firsts, just, union, is, the, plain_fix, tokens_of}
use Rattle.sml_grammar.proofs.Sets.{Tests, is_just, pick_if, apart_here}
use Rattle.sml_grammar.proofs.Shapes.{stops, halts, the_word}
use Rattle.sml_grammar.proofs.Joined.{within_is}
use Rattle.sml_grammar.proofs.Types.{ty_goes}
use Rattle.sml_grammar_exp.proofs.Parts.{numbered_phrase}
use Rattle.sml_grammar_sig.specs.Sigs.{Sx, is_real, ends_with_where, where_place, HeadR}
use Rattle.sml_grammar_sig.specs.ReadSigs.{Suffix, below, head_read, suffix_read, sig_goes}
use Rattle.sml_grammar_sig.specs.ReadDescs.{real_bind_read}
use Rattle.sml_grammar_sig.proofs.Descs.{real_bind_exact}
use Rattle.sml_grammar_sig.proofs.Chain.{guarded}
use Rattle.sml_grammar_sig.proofs.Sigs.{HeadP, suffix_height, suffix_test, SuffixR, suffix_item}
use Rattle.sml_grammar_sig.proofs.Levels.{head_exact}
use Rattle.sml_grammar_mod.specs.Strs.{St}
use Rattle.sml_grammar_mod.specs.ReadStrs.{Seal, marked, Growing, Grow, grown_str, above, ascribe_firsts, begins_ascribe, grow_firsts, begins_grow, seal_level, seal_read, seals_read, types_read, grow_read, inner}
use Rattle.sml_grammar_mod.proofs.Inner.{Inner, inner_exact}
use Rattle.sml_grammar_mod.proofs.Choices.{lesser, lesser_is, pick_any}

-- ---- what stops a structure expression

-- behind a type
abbrev pub real_bar : Bool → Option Token → Bool
real_bar true o = stops ty_goes o
real_bar false o = true

-- a parenthesis goes on with a short name
abbrev pub short_bar : List (List ℕ) → Option Token → Bool
short_bar [] o = true
short_bar (v ∷ []) o = not (head_is (is OPEN_PAREN) o)
short_bar (v ∷ w ∷ p) o = true

abbrev pub ascribe_real : Ascribe → Bool
ascribe_real (ascribe.Clear p s) = ends_with_where (where_place s)
ascribe_real (ascribe.Opaque p s) = ends_with_where (where_place s)

abbrev pub str_bar : StrExp-F StrBind StrDec StrExp → Option Token → Bool
str_bar (StrExp-F.At p x) o = short_bar x.1 o
str_bar (StrExp-F.Seal p e a) o = real_bar (ascribe_real a) o
str_bar _ o = true

-- without an ascription behind it
abbrev pub base_stop : St → Option Token → Bool
base_stop x o = str_bar (out-StrExp x.0) o

abbrev pub str_stop : St → Option Token → Bool
str_stop x o = base_stop x o && not (head_is begins_grow o)

abbrev pub growing_stop : Growing → Option Token → Bool
growing_stop g o = base_stop (grown_str g) o

pub grow_halts : (c : Token) → begins_grow c ≡ true → stops ty_goes (Some c) ≡ true
grow_halts c e = halts plain_fix grow_firsts ty_goes begins_grow (λ c. refl) refl c e

pub bar_halts : (t : StrExp-F StrBind StrDec StrExp) (c : Token) → begins_grow c ≡ true → str_bar t (Some c) ≡ true
bar_halts (StrExp-F.Body p ds) c e = refl
bar_halts (StrExp-F.At p x) c e = go x.1
  where
    go : (v : List (List ℕ)) → short_bar v (Some c) ≡ true
    go [] = refl
    go (v ∷ []) = let a = halts plain_fix grow_firsts (just OPEN_PAREN) begins_grow (λ c. refl) refl c e in ap not (is_just plain_fix OPEN_PAREN c) ∙ a
    go (v ∷ w ∷ p) = refl
bar_halts (StrExp-F.Seal p s a) c e = go (ascribe_real a)
  where
    go : (r : Bool) → real_bar r (Some c) ≡ true
    go true = grow_halts c e
    go false = refl
bar_halts (StrExp-F.Call p f s) c e = refl
bar_halts (StrExp-F.CallBody p f ds) c e = refl
bar_halts (StrExp-F.LetStr p ds s) c e = refl

-- ---- ascriptions whose types are still to come

-- : SigExp  |  :> SigExp
abbrev pub SealD : (Sx → List Token → Type 0) → Seal → List Token → Type 0
SealD G = Or (As (marked false) (Both (Shows (the COLON)) G)) (As (marked true) (Both (Shows (the SEAL)) G))

abbrev pub seal_height : Seal → ℕ
seal_height a = a.1.1

seal_now : {s : Known} {n : ℕ} → HeadP s n → Phrase s n 0 (λ k. SealD (HeadR k)) (λ k. seal_level (head_read k.height) k.height) always seal_height 1 0 begins_ascribe 1
seal_now H = last (pick_if plain_fix (just COLON) (just SEAL) (is_just plain_fix COLON) (is_just plain_fix SEAL)
    (made_phrase (marked false) seal_height always (phrase (the_word COLON) H.part) (λ x. omega arith) (λ x o. refl))
    (made_phrase (marked true) seal_height always (phrase (the_word SEAL) H.part) (λ x. omega arith) (λ x o. refl)) (omega arith) refl) (omega arith)

abbrev pub SealR : Room → Seal → List Token → Type 0
SealR = Inner (Inner (λ k. SealD (HeadR k)))

abbrev pub seal_in : Room → Reader Token Seal
seal_in k = seal_read k.height

pub seal_exact : (s : Known) (n : ℕ) → Phrase s n 0 SealR seal_in always (λ a. suc (suc (seal_height a))) 3 0 begins_ascribe 3
seal_exact = inner_exact (Inner (λ k. SealD (HeadR k))) (inner begins_ascribe (λ h. seal_level (head_read h) h))
    (inner_exact (λ k. SealD (HeadR k)) (λ h. seal_level (head_read h) h) (λ s n. seal_now (head_exact s n)))

-- ---- types behind the last ascription

abbrev pub TypesR : Room → Sx → Suffix → List Token → Type 0
TypesR k x = Inner (Inner (λ k. SuffixR k x)) k

abbrev pub types_height : Sx → Suffix → ℕ
types_height x u = suc (suc (max (below x) (suffix_height u)))

pub types_exact : (x : Sx) (s : Known) (n : ℕ) → Phrase s n 0 (λ k. TypesR k x) (λ k. types_read k.height x) (λ u. stops ty_goes) (types_height x) (suc (suc (below x))) 0 (suffix_test (is_real x)) (suc (suc (below x)))
types_exact x = inner_exact (Inner (λ k. SuffixR k x)) (inner (suffix_test (is_real x)) (λ h. suffix_read (real_bind_read h) h x)) (inner_exact (λ k. SuffixR k x) (λ h. suffix_read (real_bind_read h) h x) (λ s n. suffix_item (real_bind_exact s n) x))

-- ---- either

abbrev pub SealsD : Room → Growing → Grow → List Token → Type 0
SealsD k g = As Grow.Seals (Passing (growth begins_ascribe true (above g) k.height) (SealR k))

abbrev pub GrowR : Room → Growing → Grow → List Token → Type 0
GrowR k (Growing.Whole s) = SealsD k (Growing.Whole s)
GrowR k (Growing.Sealed x) = Or (SealsD k (Growing.Sealed x)) (As Grow.Types (TypesR k x.1.1))

abbrev pub grow_stop : Grow → Option Token → Bool
grow_stop (Grow.Seals a) o = true
grow_stop (Grow.Types u) o = stops ty_goes o

abbrev pub types_tall : Growing → Suffix → ℕ
types_tall (Growing.Whole s) u = 0
types_tall (Growing.Sealed x) u = types_height x.1.1 u

abbrev pub grow_tall : Growing → Grow → ℕ
grow_tall g (Grow.Seals a) = max (above g) (suc (suc (seal_height a)))
grow_tall g (Grow.Types u) = types_tall g u

abbrev pub grow_low : Growing → ℕ
grow_low (Growing.Whole s) = above (Growing.Whole s)
grow_low (Growing.Sealed x) = lesser (above (Growing.Sealed x)) (suc (suc (below x.1.1)))

abbrev pub grow_enough : Growing → ℕ
grow_enough (Growing.Whole s) = max (above (Growing.Whole s)) 3
grow_enough (Growing.Sealed x) = max (max (above (Growing.Sealed x)) 3) (suc (suc (below x.1.1)))

abbrev pub types_firsts : Bool → Firsts
types_firsts true = sig_goes
types_firsts false = just WHERE

abbrev pub grow_test : Growing → Token → Bool
grow_test (Growing.Whole s) = begins_ascribe
grow_test (Growing.Sealed x) = tokens_of (union ascribe_firsts (types_firsts (is_real x.1.1)))

pub types_tests : (r : Bool) → Tests plain_fix (types_firsts r) (suffix_test r)
types_tests true c = refl
types_tests false c = is_just plain_fix WHERE c

pub seals_now : {s : Known} {n : ℕ} (g : Growing) → Phrase s n 0 (λ k. SealsD k g) (λ k. seals_read k.height g) grow_stop (grow_tall g) (above g) 0 begins_ascribe (max (above g) 3)
seals_now {s = s} {n = n} g = made_phrase Grow.Seals (grow_tall g) grow_stop (guarded (seal_exact s n) (above g) (omega arith) (omega arith)) (λ x. refl) (λ x o. refl)

pub grow_item : {s : Known} {n : ℕ} (g : Growing) → Phrase s n 0 (λ k. GrowR k g) (λ k. grow_read k.height g) grow_stop (grow_tall g) (grow_low g) 0 (grow_test g) (grow_enough g)
grow_item (Growing.Whole s) = seals_now (Growing.Whole s)
grow_item {s = s} {n = n} (Growing.Sealed x) = numbered_phrase (grow_low (Growing.Sealed x)) 0 (grow_enough (Growing.Sealed x))
    (pick_any plain_fix ascribe_firsts (types_firsts (is_real x.1.1)) (λ c. refl) (types_tests (is_real x.1.1))
    (seals_now (Growing.Sealed x))
    (made_phrase Grow.Types (grow_tall (Growing.Sealed x)) grow_stop (types_exact x.1.1 s n) (λ u. refl) (λ u o. refl))
    (grow_low (Growing.Sealed x)) (lesser_is (above (Growing.Sealed x)) (suc (suc (below x.1.1)))) (off (is_real x.1.1))) (omega arith) (omega arith) (omega arith) (omega arith)
  where
    off : (r : Bool) → apart_here (types_firsts r) ascribe_firsts ≡ true
    off true = refl
    off false = refl

pub grow_begins : (g : Growing) (c : Token) → grow_test g c ≡ true → begins_grow c ≡ true
grow_begins (Growing.Whole s) c e = within_is plain_fix ascribe_firsts grow_firsts refl c e
grow_begins (Growing.Sealed x) c e = go (is_real x.1.1) e
  where
    go : (r : Bool) → tokens_of (union ascribe_firsts (types_firsts r)) c ≡ true → begins_grow c ≡ true
    go true e = e
    go false e = within_is plain_fix (union ascribe_firsts (just WHERE)) grow_firsts refl c e

pub grow_next : (u : Grow) (c : Token) → begins_grow c ≡ true → grow_stop u (Some c) ≡ true
grow_next (Grow.Seals a) c e = refl
grow_next (Grow.Types u) c e = grow_halts c e
