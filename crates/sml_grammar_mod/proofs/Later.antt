-- A type behind the last ascription, read one token later: behind an `and` that may begin the next binding too, or with its `where`.
use Rattle.std.proofs.Common.{◌⊎◌, ℕ, zero, suc, max, Bool, true, false, List, refl, arith, inl, inr}
use Rattle.readers.specs.Reader.{Reader, skip, guard}
use Rattle.readers.specs.Language.{Passing, As, Skip}
use Rattle.readers.specs.Room.{Room, at_height}
use Rattle.readers.specs.Forms.{growth}
use Rattle.readers.proofs.Bundle.{Known, Fitting, Phrase}
use Rattle.readers.proofs.Combine.{made_phrase}
use Rattle.readers.proofs.Grow.{after_first, after_in}
use Rattle.sml_lex.specs.declared.token.Token.{Token}
use Rattle.sml_grammar.specs.Words.{AND, TYPE, WHERE}
use Rattle.sml_grammar.specs.Tokens.{is}
use Rattle.sml_grammar.proofs.Shapes.{stops, past_word}
use Rattle.sml_grammar.proofs.Types.{ty_goes}
use Rattle.sml_grammar_sig.specs.Descs.{Re, RealBindR}
use Rattle.sml_grammar_sig.specs.Sigs.{Sx, WhereD}
use Rattle.sml_grammar_sig.specs.ReadDescs.{real_bind_read}
use Rattle.sml_grammar_sig.specs.ReadSigs.{Suffix, at_where, at_and, below, where_read}
use Rattle.sml_grammar_sig.proofs.Descs.{real_bind_exact}
use Rattle.sml_grammar_sig.proofs.Chain.{guarded}
use Rattle.sml_grammar_sig.proofs.Sigs.{suffix_height, smaller, SuffixD, where_now, and_now}
use Rattle.sml_grammar_mod.specs.ReadStrs.{more_read, there_read, inner}
use Rattle.sml_grammar_mod.proofs.Inner.{Inner, inner_on, inner_exact}

abbrev MoreD : Sx → Room → Re → List Token → Type 0
MoreD x k = Passing (growth (is TYPE) true (below x) k.height) (Skip (is TYPE) (RealBindR k))

abbrev more_by : Sx → ℕ → Reader Token Re
more_by x h = guard (growth (is TYPE) true (below x) h) (skip (is TYPE) (real_bind_read h))

abbrev ThereD : Sx → Room → Suffix → List Token → Type 0
ThereD x k = Passing (growth (is WHERE) true (below x) k.height) (As at_where (WhereD (RealBindR k)))

abbrev there_by : Sx → ℕ → Reader Token Suffix
there_by x h = guard (growth (is WHERE) true (below x) h) (where_read (real_bind_read h))

-- after `and`
abbrev pub MoreR : Room → Sx → Suffix → List Token → Type 0
MoreR k x = As at_and (Inner (Inner (MoreD x)) k)

-- with its `where`
abbrev pub ThereR : Room → Sx → Suffix → List Token → Type 0
ThereR k x = Inner (Inner (ThereD x)) k

abbrev pub behind_height : Sx → Suffix → ℕ
behind_height x u = suc (suc (max (below x) (suffix_height u)))

pub more_exact : (x : Sx) (s : Known) (n : ℕ) → Phrase s n 0 (λ k. MoreR k x) (λ k. more_read k.height x) (λ u. stops ty_goes) (behind_height x) (suc (suc (below x))) 0 (is TYPE) (suc (suc (max (below x) 2)))
more_exact x s n = made_phrase at_and (behind_height x) (λ u. stops ty_goes)
    (inner_exact (Inner (MoreD x)) (inner (is TYPE) (more_by x)) (inner_exact (MoreD x) (more_by x) (λ s n. let R = real_bind_exact s n in guarded (past_word TYPE R.part) (below x) (omega arith) (omega arith))) s n)
    (λ b. refl) (λ b o. refl)

pub there_exact : (x : Sx) (s : Known) (n : ℕ) → Phrase s n 0 (λ k. ThereR k x) (λ k. there_read k.height x) (λ u. stops ty_goes) (behind_height x) (suc (suc (below x))) 0 (is WHERE) (suc (suc (max (below x) 2)))
there_exact x = inner_exact (Inner (ThereD x)) (inner (is WHERE) (there_by x)) (inner_exact (ThereD x) (there_by x) (λ s n. guarded (where_now (real_bind_exact s n)) (below x) (omega arith) (omega arith)))

-- a type behind the last ascription is one of these
abbrev pub Split : Bool → Room → Sx → Suffix → List Token → Type 0
Split true k x u w = Skip (is AND) (MoreR k x) u w ⊎ ThereR k x u w
Split false k x u w = ThereR k x u w

module _ (s : Known) (n : ℕ) where
  pub split : (h : ℕ) (b : Bool) (r : Bool) (x : Sx) (u : Suffix) (w : List Token) → Fitting s n (at_height h b) → inner_on (Inner (λ k. SuffixD r k (below x))) h b u w → Split r (at_height h b) x u w
  split zero b r x u w i d = absurd d
  split (suc zero) b r x u w i d = absurd d
  split (suc (suc h)) b true x u w i (inl d) =
      let k : Room = at_height h b in
      let f = smaller s n h b (smaller s n (suc h) b i) in
      let c = after_first (and_now (real_bind_exact s n)) true (below x) k u w f d in
      let R = real_bind_exact s n in
      let q = d.1.2 in
      inl (record { front = q.front; back = q.back; left = q.left; right = (d.1.0, d.1.1, after_in (past_word TYPE R.part) true (below x) k d.1.0 q.back f refl c.4 q.right); whole = q.whole })
  split (suc (suc h)) b true x u w i (inr d) = inr d
  split (suc (suc h)) b false x u w i d = d

  pub unsplit : (h : ℕ) (b : Bool) (r : Bool) (x : Sx) (u : Suffix) (w : List Token) → Fitting s n (at_height h b) → Split r (at_height h b) x u w → inner_on (Inner (λ k. SuffixD r k (below x))) h b u w
  unsplit zero b true x u w i (inl d) = absurd d.right.2
  unsplit zero b true x u w i (inr d) = absurd d
  unsplit zero b false x u w i d = absurd d
  unsplit (suc zero) b true x u w i (inl d) = absurd d.right.2
  unsplit (suc zero) b true x u w i (inr d) = absurd d
  unsplit (suc zero) b false x u w i d = absurd d
  unsplit (suc (suc h)) b true x u w i (inl d) =
      let k : Room = at_height h b in
      let f = smaller s n h b (smaller s n (suc h) b i) in
      let R = real_bind_exact s n in
      let e = d.right in
      let c = after_first (past_word TYPE R.part) true (below x) k e.0 d.back f e.2 in
      inl (after_in (and_now R) true (below x) k u w f refl c.4 (e.0, e.1, record { front = d.front; back = d.back; left = d.left; right = e.2.1; whole = d.whole }))
  unsplit (suc (suc h)) b true x u w i (inr d) = inr d
  unsplit (suc (suc h)) b false x u w i d = d
