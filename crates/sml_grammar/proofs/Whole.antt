-- What follows for whole texts and for fronts where phrases are read exactly.
use Rattle.std.proofs.Common.{◌≡◌, ℕ, ◌+◌, ◌≤◌, Bool, true, false, List, [], ◌∷◌, ◌++◌, Option, Some, None, Ok, Err, refl, sym, ap, subst, ◌∙◌, arith}
use Rattle.std.proofs.lemmas.List.{append-nil}
use Rattle.readers.specs.declared.code.Code.{Code}
use Rattle.readers.specs.Reader.{first, Answer, Reader}
use Rattle.readers.specs.Language.{Viable}
use Rattle.readers.specs.Room.{Room, Under, at_height}
use Rattle.readers.specs.Exact.{Reads}
use Rattle.readers.specs.WholeText.{RefusedAt}
use Rattle.readers.proofs.Outcome.{ok_is, not_both}
use Rattle.readers.proofs.WholeText.{refused_at, left_over, longest}
use Rattle.readers.proofs.Bundle.{Known, Phrase, mono}
use Rattle.sml_grammar.specs.Promise.{Derives, Refusal, Exactly, Longest, Front}

module _ {K T : Type 0} {D : Room → T → List K → Type 0} {p : Room → Reader K T} {stop : T → Option K → Bool} {tall : T → ℕ} {low : ℕ} {test : K → Bool} {enough : ℕ}
    (P : (n : ℕ) → Phrase Known.Refusals n 0 D p stop tall low 0 test enough) (ends : (t : T) → stop t None ≡ true) where
  read_all : (k : Room) → Reads (D k) stop (p k)
  read_all k = let Q = P k.height in Q.part.reads k tt

  grows : (h k : Room) (t : T) (w : List K) → Under h k → D h t w → D k t w
  grows h k t w u d = let Q = P 0 in mono Q.part h k t w tt u d

  read_whole : (h : ℕ) (s : List K) (t : T) → Derives D h s t → p (at_height h false) s ≡ Ok (t, [])
  read_whole h s t d = let r = read_all (at_height h false) in ap (p (at_height h false)) (sym (append-nil s)) ∙ r.complete t s [] d (ends t)

  pub same_tree : (h : ℕ) (s : List K) (t u : T) → Derives D h s t → Derives D h s u → t ≡ u
  same_tree h s t u d e = let same = ok_is (t, []) (u, []) (sym (read_whole h s t d) ∙ read_whole h s u e) in ap (λ (z : T × List K). z.0) same

  refused : (h : ℕ) → low ≤ h → (s : List K) (e : Code × List K) → p (at_height h false) s ≡ Err e → RefusedAt D h s e.0 e.1
  refused h le s e i = let Q = P h in refused_at D stop p ends read_all grows h (Q.part.some (at_height h false) tt le) s e (Q.part.refuses (at_height h false) (omega arith) (omega arith) s e i)

  pub exactly : (h : ℕ) (s : List K) → low ≤ h → Exactly D h s (p (at_height h false) s)
  exactly h s le = go (p (at_height h false) s) refl
    where
      go : (r : Answer K T) → p (at_height h false) s ≡ r → Exactly D h s r
      go (Ok (x, [])) e =
          let r = read_all (at_height h false) in
          let f = r.sound s (x, []) e in
          let d : D (at_height h false) x s = subst (λ (w : List K). D (at_height h false) x w) (sym (f.parts ∙ append-nil f.read)) f.derives in
          (d, λ u i. same_tree h s u x i d)
      go (Ok (x, c ∷ rest)) e = (
        λ u i. let same = ok_is (x, c ∷ rest) (u, []) (sym e ∙ read_whole h s u i) in let ends : c ∷ rest ≡ [] = ap (λ (z : T × List K). z.1) same in absurd cc,
        left_over D stop p ends read_all grows h s (x, c ∷ rest) e,
      )
      go (Err i) e = (λ u j. not_both (u, []) i (sym (read_whole h s u j) ∙ e), refused h le s i e)

  pub front : (h : ℕ) (s : List K) → low ≤ h → Front D h s (p (at_height h false) s)
  front h s le = go (p (at_height h false) s) refl
    where
      go : (r : Answer K T) → p (at_height h false) s ≡ r → Front D h s r
      go (Ok x) e =
          let r = read_all (at_height h false) in
          let f = r.sound s x e in
          record { read = f.read; parts = f.parts; derives = f.derives; longest = λ k c is v. longest D stop p ends read_all grows (at_height h false) s x f k c is v }
      go (Err i) e = refused h le s i e
