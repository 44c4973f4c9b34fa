-- The readers as the code goes through them: each takes a token, type variables are read by themselves, and what is seen as
-- another tree.
use Rattle.std.proofs.Common.{◌≡◌, ℕ, ◌≤◌, Bool, true, false, if◌then◌else◌, List, [], ◌∷◌, length, Option, Some, None, Ok, Err, refl, ap, ◌∙◌, arith, inl, inr}
use Rattle.tl_text.specs.declared.place.Place.{Place}
use Rattle.readers.specs.declared.code.Code.TheVariants.{Grammar}
use Rattle.readers.specs.declared.fault.ReadError.{ReadError}
use Rattle.readers.specs.declared.fault.ReadError.TheVariants as errors
use Rattle.readers.specs.Given.{Fails}
use Rattle.readers.specs.Reader.{first, head_is, Answer, Reader, ◌>>=◌, both, mapped, token_by, skip, close, roomy}
use Rattle.readers.specs.Room.{Room, at_height}
use Rattle.readers.specs.Forms.{ended, maybe, seps}
use Rattle.readers.proofs.Bundle.{Known, Phrase}
use Rattle.readers.proofs.Choice.{remade, roomy_ok}
use Rattle.readers.proofs.Outcome.{ok_of, ok_is, chosen}
use Rattle.readers.proofs.RowLoop.{Shortens, shortens}
use Rattle.sml_lex.specs.declared.token.Token.{Token}
use Rattle.sml_fix.specs.Fixities.{Settings}
use Rattle.sml_scan.proofs.Shorter.{Keeps, kept, token_shorter, mapped_shorter, both_shorter, skip_shorter}
use Rattle.sml_grammar.specs.Words.{AND, BAR, COMMA, CLOSE_PAREN, OF, OPEN_PAREN}
use Rattle.sml_grammar.specs.Tokens.{is, the, tokens_of, tyvar}
use Rattle.sml_grammar.specs.Types.{Ident, Tx}
use Rattle.sml_grammar.specs.ReadTypes.{ty_read}
use Rattle.sml_grammar.specs.ReadPats.{at_read}
use Rattle.sml_grammar.proofs.Types.{ty_exact}
use Rattle.sml_grammar.proofs.Pats.{at_exact}
use Rattle.sml_grammar_exp.specs.Binds.{Vars, some_vars, one_var, with_vars, no_vars, Vid, con_of}
use Rattle.sml_grammar_exp.specs.ReadBinds.{con_goes, begins_vars, vars_read, under_read, tybind_read, vid_read, con_read, cons_read, datbind_read, exbind_read}
use Rattle.sml_grammar_exp.specs.ReadDecs.{vars_next, under_by as under_by_read, under_two as under_two_read}
use Rattle.sml_grammar_exp.proofs.Binds.{tybind, vids, datbind, cons_exact, exbind_exact}
use Rattle.sml_parse_ty.proofs.Steps.{ty_less}
use Rattle.sml_parse_bind.specs.Levels as levels

-- ---- each reader takes a token

-- what is read exactly and begins with a token
pub phrase_less : {K T : Type 0} {n up : ℕ} {D : Room → T → List K → Type 0} {p : Room → Reader K T} {stop : T → Option K → Bool} {tall : T → ℕ} {low need : ℕ} {test : K → Bool} {enough : ℕ}
    → Phrase Known.Readings n up D p stop tall low need test enough → (k : Room) → k.height ≤ n → Shortens (p k)
phrase_less {D = D} {p = p} {stop = stop} {test = test} P k le = shortens test (D k) stop (p k) (λ t w d. P.opening.begins k t w tt d) (P.part.reads k le)

abbrev shut_by : {K T : Type 0} → Bool → T × List K → Answer K T
shut_by b x = if b then Err (Grammar, x.1) else Ok x

abbrev gave : {K T : Type 0} → T × List K → Answer K T
gave z = Ok z

ended_ok : {K T : Type 0} (test : K → Bool) (p : Reader K T) (s : List K) (z : T × List K) → ended test p s ≡ Ok z → p s ≡ Ok z
ended_ok {K} {T} test p s z e =
    let a = ok_of (p s) (λ x. shut_by (head_is test (first x.1)) x) z e in
    a.1 ∙ open_one a.0 (head_is test (first a.0.1)) a.2
  where
    open_one : (x : T × List K) (b : Bool) → shut_by b x ≡ Ok z → gave x ≡ gave z
    open_one x true i = absurd cc
    open_one x false i = i

pub ended_shorter : {K T : Type 0} (test : K → Bool) (p : Reader K T) → Shortens p → Shortens (ended test p)
ended_shorter test p P s z e = P s z (ended_ok test p s z e)

pub maybe_keeps : {K T : Type 0} (test : K → Bool) (low : ℕ) (p : Reader K T) (h : ℕ) → Shortens p → Keeps (maybe test low p h)
maybe_keeps {K} {T} test low p h P s z e =
    elim (chosen (head_is test (first s)) (roomy low (mapped (λ x. Some x) p) h s) (Ok (None, s)) (Ok z) e) [
      | inl a ↦ kept (mapped (λ x. Some x) p) (mapped_shorter (λ x. Some x) p P) s z (roomy_ok low h (mapped (λ x. Some x) p) s z a.1)
      | inr a ↦ let l = ap (λ (y : Option T × List K). length y.1) (ok_is (None, s) z a.1) in omega arith
    ]

-- behind a word
pub word_less : {T : Type 0} (k : ℕ) (p : Reader Token T) → Shortens p → Shortens (skip (is k) p)
word_less k p P = skip_shorter (is k) p (kept p P)

pub comma_tyvar_less : Shortens (skip (is COMMA) (token_by tyvar))
comma_tyvar_less = word_less COMMA (token_by tyvar) (token_shorter tyvar)

pub and_tybind_less : (h : ℕ) → Shortens (skip (is AND) (tybind_read (ty_read h)))
and_tybind_less h = word_less AND (tybind_read (ty_read h)) (phrase_less (tybind (ty_exact Known.Readings h)) (at_height h false) (omega arith))

module _ (fix : Settings) (h : ℕ) where
  pub at_less : Shortens (at_read h false fix)
  at_less = phrase_less (at_exact fix Known.Readings h) (at_height h false) (omega arith)

  con_less : Shortens (con_read fix (ty_read h) h)
  con_less =
      let arg : Reader Token (Option Tx) = maybe (is OF) 1 (skip (is OF) (ty_read h)) h in
      let all : Reader Token (Vid × Option Tx) = both (vid_read fix) arg in
      mapped_shorter con_of (ended (tokens_of con_goes) all) (ended_shorter (tokens_of con_goes) all
      (both_shorter (vid_read fix) arg (phrase_less {n = h} (vids fix) (at_height h false) (omega arith)) (maybe_keeps (is OF) 1 (skip (is OF) (ty_read h)) h (word_less OF (ty_read h) (ty_less h)))))

  pub bar_con_less : Shortens (skip (is BAR) (con_read fix (ty_read h) h))
  bar_con_less = word_less BAR (con_read fix (ty_read h) h) con_less

  pub and_datbind_less : Shortens (skip (is AND) (datbind_read (cons_read h fix)))
  and_datbind_less = word_less AND (datbind_read (cons_read h fix)) (phrase_less (datbind fix (cons_exact fix Known.Readings h)) (at_height h false) (omega arith))

  pub and_exbind_less : Shortens (skip (is AND) (exbind_read h fix))
  and_exbind_less = word_less AND (exbind_read h fix) (phrase_less (exbind_exact fix Known.Readings h) (at_height h false) (omega arith))

-- ---- seen as another tree

pub mapped_mapped : {K S T U : Type 0} (f : S → T) (g : T → U) (p : Reader K S) (s : List K) → mapped g (mapped f p) s ≡ mapped (λ x. g (f x)) p s
mapped_mapped {K} {S} {T} {U} f g p s = go (p s)
  where
    go : (r : Answer K S) → remade g (remade f r) ≡ remade (λ x. g (f x)) r
    go (Ok x) = refl
    go (Err e) = refl

abbrev paired : {K S T : Type 0} → S → T → List K → Answer K (S × T)
paired x y s = Ok ((x, y), s)

-- behind the first part
pub behind_first : {K S T U : Type 0} (f : S × T → U) (p : Reader K S) (q : Reader K T) (s rest : List K) (x : S) → p s ≡ Ok (x, rest) → mapped f (both p q) s ≡ mapped (λ y. f (x, y)) q rest
behind_first {K} {S} {T} {U} f p q s rest x e = rw e (go (q rest))
  where
    go : (r : Answer K T) → remade f (r >>= λ y. paired x y.0 y.1) ≡ remade (λ y. f (x, y)) r
    go (Ok y) = refl
    go (Err e) = refl

-- the same of what nothing of the test may follow
pub behind_ended : {K S T U : Type 0} (f : S × T → U) (test : K → Bool) (p : Reader K S) (q : Reader K T) (s rest : List K) (x : S) → p s ≡ Ok (x, rest) → mapped f (ended test (both p q)) s ≡ mapped (λ y. f (x, y)) (ended test q) rest
behind_ended {K} {S} {T} {U} f test p q s rest x e = rw e (go (q rest))
  where
    step : (y : T × List K) (b : Bool) → remade f (shut_by b ((x, y.0), y.1)) ≡ remade (λ y. f (x, y)) (shut_by b y)
    step y true = refl
    step y false = refl

    go : (r : Answer K T) → remade f ((r >>= λ y. paired x y.0 y.1) >>= λ z. shut_by (head_is test (first z.1)) z) ≡ remade (λ y. f (x, y)) (r >>= λ z. shut_by (head_is test (first z.1)) z)
    go (Ok y) = step y (head_is test (first y.1))
    go (Err e) = refl

-- what may not follow, before or after it is seen so
pub ended_mapped : {K S T : Type 0} (f : S → T) (test : K → Bool) (p : Reader K S) (s : List K) → mapped f (ended test p) s ≡ ended test (mapped f p) s
ended_mapped {K} {S} {T} f test p s = go (p s)
  where
    step : (x : S × List K) (b : Bool) → remade f (shut_by b x) ≡ shut_by b (f x.0, x.1)
    step x true = refl
    step x false = refl

    go : (r : Answer K S) → remade f (r >>= λ x. shut_by (head_is test (first x.1)) x) ≡ (remade f r >>= λ x. shut_by (head_is test (first x.1)) x)
    go (Ok x) = step x (head_is test (first x.1))
    go (Err e) = refl

module _ {K S T : Type 0} (f : S → T) (test : K → Bool) (p : Reader K S) where
  pub ended_gives : (s : List K) (z : T × List K) → mapped f p s ≡ Ok z → head_is test (first z.1) ≡ false → mapped f (ended test p) s ≡ Ok z
  ended_gives s z e i = ended_mapped f test p s ∙ rw e (rw i refl)

  pub ended_bars : (s : List K) (z : T × List K) → mapped f p s ≡ Ok z → head_is test (first z.1) ≡ true → mapped f (ended test p) s ≡ Err (Grammar, z.1)
  ended_bars s z e i = ended_mapped f test p s ∙ rw e (rw i refl)

  pub ended_fails : (g : ReadError K) (s : List K) → Fails g (mapped f p s) → Fails g (mapped f (ended test p) s)
  ended_fails errors.NoMemory s e = tt
  ended_fails (errors.Refused code rest) s e = ended_mapped f test p s ∙ rw e refl

-- ---- type variables by themselves, and then what follows

module _ {X : Type 0} (p : Reader Token X) where
  paren_vars : (s : List Token)
      → mapped some_vars (both (token_by (the OPEN_PAREN)) (both (close (seps (is COMMA) (token_by tyvar)) (is CLOSE_PAREN)) p)) s
      ≡ both (both (token_by (the OPEN_PAREN)) (close (seps (is COMMA) (token_by tyvar)) (is CLOSE_PAREN))) p s
  paren_vars s = go (token_by (the OPEN_PAREN) s)
    where
      last : (q : Place) (vs : List Ident) (r : Answer Token X) → remade some_vars ((r >>= λ y. paired vs y.0 y.1) >>= λ y. paired q y.0 y.1) ≡ (r >>= λ y. paired (q, vs) y.0 y.1)
      last q vs (Ok x) = refl
      last q vs (Err e) = refl

      next : (q : Place) (r : Answer Token (List Ident)) → remade some_vars ((r >>= λ x. p x.1 >>= λ y. paired x.0 y.0 y.1) >>= λ y. paired q y.0 y.1) ≡ ((r >>= λ y. paired q y.0 y.1) >>= λ x. p x.1 >>= λ y. paired x.0 y.0 y.1)
      next q (Ok x) = last q x.0 (p x.1)
      next q (Err e) = refl

      go : (r : Answer Token Place)
          → remade some_vars (r >>= λ x. both (close (seps (is COMMA) (token_by tyvar)) (is CLOSE_PAREN)) p x.1 >>= λ y. paired x.0 y.0 y.1)
          ≡ ((r >>= λ x. close (seps (is COMMA) (token_by tyvar)) (is CLOSE_PAREN) x.1 >>= λ y. paired x.0 y.0 y.1) >>= λ x. p x.1 >>= λ y. paired x.0 y.0 y.1)
      go (Ok x) = next x.0 (close (seps (is COMMA) (token_by tyvar)) (is CLOSE_PAREN) x.1)
      go (Err e) = refl

  single_var : (s : List Token) → mapped one_var (both (token_by tyvar) p) s ≡ both levels.one_var p s
  single_var s = go (token_by tyvar s)
    where
      last : (v : Ident) (r : Answer Token X) → remade one_var (r >>= λ y. paired v y.0 y.1) ≡ (r >>= λ y. paired (v.0, v ∷ []) y.0 y.1)
      last v (Ok x) = refl
      last v (Err e) = refl

      go : (r : Answer Token Ident) → remade one_var (r >>= λ x. p x.1 >>= λ y. paired x.0 y.0 y.1) ≡ (remade levels.var_of r >>= λ x. p x.1 >>= λ y. paired x.0 y.0 y.1)
      go (Ok x) = last x.0 (p x.1)
      go (Err e) = refl

  pub vars_are : (s : List Token) → vars_read p s ≡ both levels.vars p s
  vars_are s = go (head_is (is OPEN_PAREN) (first s)) refl
    where
      go : (b : Bool) → head_is (is OPEN_PAREN) (first s) ≡ b → vars_read p s ≡ both levels.vars p s
      go true e = rw e (paren_vars s)
      go false e = rw e (single_var s)

  with_some : (s : List Token) → mapped with_vars (vars_read p) s ≡ both (mapped (λ v. Some v) levels.vars) p s
  with_some s = ap (remade with_vars) (vars_are s) ∙ go (levels.vars s)
    where
      last : (v : Vars) (r : Answer Token X) → remade with_vars (r >>= λ y. paired v y.0 y.1) ≡ (r >>= λ y. paired (let o : Option Vars = Some v in o) y.0 y.1)
      last v (Ok x) = refl
      last v (Err e) = refl

      go : (r : Answer Token Vars) → remade with_vars (r >>= λ x. p x.1 >>= λ y. paired x.0 y.0 y.1) ≡ (remade (λ v. let o : Option Vars = Some v in o) r >>= λ x. p x.1 >>= λ y. paired x.0 y.0 y.1)
      go (Ok x) = last x.0 (p x.1)
      go (Err e) = refl

  with_none : (s : List Token) (r : Answer Token X) → remade no_vars r ≡ (r >>= λ y. paired (let o : Option Vars = None in o) y.0 y.1)
  with_none s (Ok x) = refl
  with_none s (Err e) = refl

  pub under_is : (s : List Token) → under_read p s ≡ both levels.under p s
  under_is s = go (head_is begins_vars (first s)) refl
    where
      go : (b : Bool) → head_is begins_vars (first s) ≡ b → under_read p s ≡ both levels.under p s
      go true e = rw e (with_some s)
      go false e = rw e (with_none s (p s))

  pub under_two_is : (s : List Token) → under_two_read p s ≡ both levels.under_two p s
  under_two_is s = go (vars_next s) refl
    where
      go : (b : Bool) → vars_next s ≡ b → under_two_read p s ≡ both levels.under_two p s
      go true e = rw e (with_some s)
      go false e = rw e (with_none s (p s))

  pub under_by_is : (b : Bool) (s : List Token) → under_by_read b p s ≡ both (levels.under_by b) p s
  under_by_is true s = under_two_is s
  under_by_is false s = under_is s
