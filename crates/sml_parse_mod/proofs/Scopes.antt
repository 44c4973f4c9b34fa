-- Declarations and what stands under their directives, and directives that end with a phrase.
use Rattle.std.proofs.Common.{◌≡◌, ℕ, suc, ◌≤◌, Bool, true, false, max, map, List, [], ◌∷◌, ◌++◌, length, take, drop, Ok, Err, refl, sym, ap, subst, ◌∙◌, append_assoc, arith}
use Rattle.std.proofs.lemmas.List.{append-nil, length-append}
use Rattle.tl_text.specs.declared.place.Place.{Place}
use Rattle.readers.specs.declared.code.Code.{Code}
use Rattle.readers.specs.declared.code.Code.TheVariants.{Grammar}
use Rattle.readers.specs.declared.fault.ReadError.{ReadError}
use Rattle.readers.specs.declared.fault.ReadError.TheVariants as errors
use Rattle.readers.specs.Given.{Fails}
use Rattle.readers.specs.Reader.{first, head_is, Answer, Reader, ◌>>=◌, bound, mapped}
use Rattle.readers.specs.Forms.{ended}
use Rattle.readers.proofs.Choice.{remade}
use Rattle.readers.proofs.Outcome.{ok_of, ok_is, not_both}
use Rattle.sml_lex.specs.declared.token.Token.{Token}
use Rattle.sml_ast.specs.declared.program.StrDec.{StrDec}
use Rattle.sml_ast.specs.declared.program.StrExp.{StrExp, roll-StrExp}
use Rattle.sml_ast.specs.declared.program.StrBind.TheOpen.{StrExp-F}
use Rattle.sml_grammar.specs.Tokens.{tokens_of}
use Rattle.sml_grammar_exp.specs.Decs.{Changes, all_of}
use Rattle.sml_grammar_mod.specs.Strs.{St, Sd, let_str_of, str_after, str_afters, strdec_changes}
use Rattle.sml_grammar_mod.specs.ReadStrs.{any_local_of, strdec_goes}
use Rattle.sml_parse_bind.proofs.Steps.{ended_gives, ended_bars, ended_fails}
use Rattle.sml_parse_exp.proofs.Scopes.{taken_front, dropped_front}
use Rattle.sml_parse_mod.specs.Levels as levels
use Rattle.sml_parse_mod.specs.Trees.{all_changes, local_tree, strdec_tree, strdecs}
use Rattle.sml_parse_mod.proofs.Locals.{local_is}

-- ---- directives

-- those behind a row of declarations
pub afters_are : (cs : Changes) (ds : List Sd) → str_afters cs ds ≡ cs ++ all_changes (map strdec_tree ds)
afters_are cs [] = sym (append-nil cs)
afters_are cs (d ∷ ds) = afters_are (str_after cs d) ds ∙ append_assoc cs (strdec_changes d.0) (all_changes (map strdec_tree ds))

-- one more declaration
pub all_more : (ds : List StrDec) (d : StrDec) → all_changes (ds ++ d ∷ []) ≡ all_changes ds ++ strdec_changes d
all_more [] d = append-nil (strdec_changes d)
all_more (c ∷ ds) d = ap (λ (z : Changes). strdec_changes c ++ z) (all_more ds d) ∙ sym (append_assoc (strdec_changes c) (all_changes ds) (strdec_changes d))

-- those inside end with the phrase
pub outer_left : (cs xs inside new : Changes) (outer : ℕ) → inside ≡ cs ++ xs → outer ≡ length cs → new ≡ take outer inside → new ≡ cs
outer_left cs xs inside new outer i n e = e ∙ (ap (λ (k : ℕ). take k inside) n ∙ (ap (take (length cs)) i ∙ taken_front cs xs))

-- those before the `in` of a `local` end with it
pub local_left : (cs xs ys inside shown new : Changes) (outer inner : ℕ) → inside ≡ cs ++ xs → shown ≡ inside ++ ys → outer ≡ length cs → inner ≡ length inside → new ≡ take outer shown ++ drop inner shown
    → new ≡ cs ++ ys
local_left cs xs ys inside shown new outer inner i s n m e =
    let all : shown ≡ cs ++ (xs ++ ys) = s ∙ (ap (λ (z : Changes). z ++ ys) i ∙ append_assoc cs xs ys) in
    let front : take outer shown ≡ cs = ap (λ (k : ℕ). take k shown) n ∙ (ap (take (length cs)) all ∙ taken_front cs (xs ++ ys)) in
    let back : drop inner shown ≡ ys = ap (λ (k : ℕ). drop k shown) m ∙ (ap (drop (length inside)) s ∙ dropped_front inside ys) in
    e ∙ (ap (λ (z : Changes). z ++ drop inner shown) front ∙ ap (λ (z : Changes). cs ++ z) back)

pub front_short : (xs ys all : Changes) → all ≡ xs ++ ys → length xs ≤ length all
front_short xs ys all i = let e = length-append xs ys in let f = ap length i in omega arith

-- ---- what is read is seen otherwise

module _ {K S T : Type 0} (f : S → T) (p : Reader K S) (s : List K) where
  pub mapped_fails : (e : ReadError K) → Fails e (mapped f p s) → Fails e (p s)
  mapped_fails errors.NoMemory i = tt
  mapped_fails (errors.Refused c rest) i = go (p s) i
    where
      err_of : Code × List K → Answer K S
      err_of d = Err d

      go : (r : Answer K S) → remade f r ≡ Err (c, rest.now) → r ≡ Err (c, rest.now)
      go (Ok x) j = absurd cc
      go (Err d) j = let same : d ≡ (c, rest.now) = cc in ap err_of same

  pub fails_mapped : (e : ReadError K) → Fails e (p s) → Fails e (mapped f p s)
  fails_mapped errors.NoMemory i = tt
  fails_mapped (errors.Refused c rest) i = ap (remade f) i

  pub other_gives : (x : T) (r : List K) → mapped f p s ≡ Ok (x, r) → (t : S) × (p s ≡ Ok (t, r)) × (f t ≡ x)
  other_gives x r i =
      let a = ok_of (p s) (λ y. Ok (f y.0, y.1)) (x, r) i in
      let same : (f a.0.0, a.0.1) ≡ (x, r) = ok_is (f a.0.0, a.0.1) (x, r) a.2 in
      let left : a.0.1 ≡ r = ap (λ (y : T × List K). y.1) same in
      (a.0.0, a.1 ∙ ap (λ (l : List K). Ok (a.0.0, l)) left, ap (λ (y : T × List K). y.0) same)

abbrev paired : {K S T : Type 0} → S → T → List K → Answer K (S × T)
paired x y s = Ok ((x, y), s)

-- behind the first of two, on whose tree the second depends
module _ {K S T U : Type 0} (f : S × T → U) (p : Reader K S) (q : S → Reader K T) (s : List K) where
  pub bound_behind : (x : S) (r : List K) → p s ≡ Ok (x, r) → mapped f (bound p q) s ≡ mapped (λ y. f (x, y)) (q x) r
  bound_behind x r e = rw e (go (q x r))
    where
      go : (a : Answer K T) → remade f (a >>= λ y. paired x y.0 y.1) ≡ remade (λ y. f (x, y)) a
      go (Ok y) = refl
      go (Err d) = refl

  pub bound_fails : (e : ReadError K) → Fails e (p s) → Fails e (mapped f (bound p q) s)
  bound_fails errors.NoMemory i = tt
  bound_fails (errors.Refused c rest) i = ap (λ (a : Answer K S). remade f (a >>= λ x. q x.0 x.1 >>= λ y. paired x.0 y.0 y.1)) i

-- ---- `local` and `let`

module _ (cs : Changes) (h : ℕ) (s : List Token) where
  -- the declarations, and the directives behind them
  hidden : (x : List StrDec × ℕ) (r : List Token) (ms : Changes) → mapped strdecs (levels.decs cs h) s ≡ Ok (x, r) → ms ≡ cs ++ all_changes x.0
      → (ds : List Sd) × (levels.decs cs h s ≡ Ok (ds, r)) × (strdecs ds ≡ x) × (str_afters cs ds ≡ ms)
  hidden x r ms e m =
      let a = other_gives strdecs (levels.decs cs h) s x r e in
      (a.0, a.1, a.2, afters_are cs a.0 ∙ (ap (λ (y : List StrDec × ℕ). cs ++ all_changes y.0) a.2 ∙ sym m))

  module _ (place : Place) where
    abbrev local_of : List Sd × List Sd → Sd
    local_of x = any_local_of (place, x)

    abbrev goes : Token → Bool
    goes = tokens_of strdec_goes

    abbrev parts : Reader Token (List Sd × List Sd)
    parts = bound (levels.decs cs h) (λ ds. levels.shown_decs (str_afters cs ds) h)

    pub local_fails : (e : ReadError Token) → Fails e (mapped strdecs (levels.decs cs h) s) → Fails e (mapped local_of (levels.local cs h) s)
    local_fails e i = ended_fails local_of goes parts e s (bound_fails local_of (levels.decs cs h) (λ ds. levels.shown_decs (str_afters cs ds) h) s e (mapped_fails strdecs (levels.decs cs h) s e i))

    pub let_fails : (e : ReadError Token) → Fails e (mapped strdecs (levels.decs cs h) s) → Fails e (mapped (λ x. let_str_of (place, x)) (levels.let_str cs h) s)
    let_fails e i = bound_fails (λ x. let_str_of (place, x)) (levels.decs cs h) (λ ds. levels.shown_str (str_afters cs ds) h) s e (mapped_fails strdecs (levels.decs cs h) s e i)

    module _ (x : List StrDec × ℕ) (r : List Token) (ms : Changes) (i : mapped strdecs (levels.decs cs h) s ≡ Ok (x, r)) (m : ms ≡ cs ++ all_changes x.0) where
      abbrev ds : List Sd
      ds = (hidden x r ms i m).0

      local_behind : mapped local_of parts s ≡ mapped (λ es. local_of (ds, es)) (levels.shown_decs ms h) r
      local_behind =
          let a = hidden x r ms i m in
          bound_behind local_of (levels.decs cs h) (λ ds. levels.shown_decs (str_afters cs ds) h) s a.0 r a.1
          ∙ ap (λ (z : Changes). mapped (λ es. local_of (a.0, es)) (levels.shown_decs z h) r) a.3

      pub local_shown_fails : (e : ReadError Token) → Fails e (mapped strdecs (levels.shown_decs ms h) r) → Fails e (mapped local_of (levels.local cs h) s)
      local_shown_fails e j =
          let P : Answer Token Sd → Type 0 = λ a. Fails e a in
          ended_fails local_of goes parts e s (subst P (sym local_behind) (fails_mapped (λ es. local_of (ds, es)) (levels.shown_decs ms h) r e (mapped_fails strdecs (levels.shown_decs ms h) r e j)))

      module _ (y : List StrDec × ℕ) (t : List Token) (j : mapped strdecs (levels.shown_decs ms h) r ≡ Ok (y, t)) where
        local_made : mapped local_of parts s ≡ Ok (local_tree place x y, t)
        local_made =
            let a = hidden x r ms i m in
            let b = other_gives strdecs (levels.shown_decs ms h) r y t j in
            local_behind
            ∙ (ap (remade (λ es. local_of (a.0, es))) b.1
            ∙ ap (λ (d : Sd). Ok (d, t)) (local_is place a.0 b.0 ∙ (ap (λ (z : List StrDec × ℕ). local_tree place z (strdecs b.0)) a.2 ∙ ap (local_tree place x) b.2)))

        pub local_gives : head_is goes (first t) ≡ false → mapped local_of (levels.local cs h) s ≡ Ok (local_tree place x y, t)
        local_gives k = ended_gives local_of goes parts s (local_tree place x y, t) local_made k

        pub local_bars : head_is goes (first t) ≡ true → mapped local_of (levels.local cs h) s ≡ Err (Grammar, t)
        local_bars k = ended_bars local_of goes parts s (local_tree place x y, t) local_made k

      abbrev let_of : List Sd × St → St
      let_of x = let_str_of (place, x)

      let_behind : mapped let_of (levels.let_str cs h) s ≡ mapped (λ e. let_of (ds, e)) (levels.shown_str ms h) r
      let_behind =
          let a = hidden x r ms i m in
          bound_behind let_of (levels.decs cs h) (λ ds. levels.shown_str (str_afters cs ds) h) s a.0 r a.1
          ∙ ap (λ (z : Changes). mapped (λ e. let_of (a.0, e)) (levels.shown_str z h) r) a.3

      pub let_shown_fails : (e : ReadError Token) → Fails e (levels.shown_str ms h r) → Fails e (mapped let_of (levels.let_str cs h) s)
      let_shown_fails errors.NoMemory j = tt
      let_shown_fails (errors.Refused c rest) j = let_behind ∙ ap (remade (λ e. let_of (ds, e))) j

      pub let_gives : (e : St) (t : List Token) → levels.shown_str ms h r ≡ Ok (e, t) → mapped let_of (levels.let_str cs h) s ≡ Ok ((roll-StrExp (StrExp-F.LetStr place x.0 e.0), suc (max x.1 e.1)), t)
      let_gives e t j =
          let a = hidden x r ms i m in
          let_behind ∙ (ap (remade (λ e. let_of (ds, e))) j ∙ ap (λ (z : List StrDec × ℕ). Ok ((roll-StrExp (StrExp-F.LetStr place z.0 e.0), suc (max z.1 e.1)), t)) a.2)
