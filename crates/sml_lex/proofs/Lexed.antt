-- A source that is read token by token.
use Rattle.std.proofs.Common.{◌≡◌, ℕ, Bool, true, false, cond, List, [], ◌∷◌, ◌++◌, length, take, drop, Option, Some, None, Result, Ok, Err, IfOk, IfErr, refl, sym, ap, subst, ◌∙◌, append_assoc}
use Rattle.tl_text.specs.declared.code.Code.{Code}
use Rattle.tl_text.specs.declared.place.Place.{Place}
use Rattle.tl_text.specs.declared.fault.Fault.{Fault}
use Rattle.tl_text.specs.declared.fault.Fault.TheVariants.{Refused, NoMemory}
use Rattle.sml_lex.specs.declared.token.Kind.{Kind}
use Rattle.sml_lex.specs.declared.token.Kind.TheVariants.{End}
use Rattle.sml_lex.specs.declared.token.Token.{Token}
use Rattle.sml_lex.specs.declared.step.Step.TheVariants.{Done, Skip, Take, Fail}
use Rattle.sml_lex.specs.Places.{moved, place_behind}
use Rattle.sml_lex.specs.Steps.{Steps}
use Rattle.sml_lex.specs.Texts.{is_plain_decimal, is_too_long, token_of, end_of, Tokens, ends, skips, takes, LexFails, here, past_skip, past_token, first_too_long, long_after, Lexes, Refuses, fails, too_long, RefusesRightly, Answers, Finishes}
use Rattle.sml_lex.proofs.Moves.{moved_append}

-- what is said of the rest holds of all, with these tokens before it
pub record LexedTo (source : ℕ) (s : List ℕ) (ts : List Token) (rest : List ℕ) (place : Place) (long : Option Place) : Type 0 where
  pub before : List ℕ
  pub placed : place ≡ place_behind source before
  pub tokens : (us : List Token) → Tokens source before rest us → Tokens source [] s (ts ++ us)
  pub refuses : (at : List ℕ) (code : Code) → LexFails before rest at code → LexFails [] s at code
  pub first : first_too_long ts ≡ long

pub lexed_start : (source : ℕ) (s : List ℕ) → LexedTo source s [] s (record { source = source; line = 1; col = 1; byte = 0 }) None
unfolding moved
lexed_start source s = record { before = []; placed = refl; tokens = λ us t. t; refuses = λ at code f. f; first = refl }

placed_more : (source : ℕ) (before run : List ℕ) (place : Place) → place ≡ place_behind source before → moved place run ≡ place_behind source (before ++ run)
placed_more source before run place e = ap (λ p. moved p run) e ∙ sym (moved_append (record { source = source; line = 1; col = 1; byte = 0 }) before run)

pub lexed_skip : (source : ℕ) (s : List ℕ) (ts : List Token) (rest : List ℕ) (place : Place) (long : Option Place) (n : ℕ) → LexedTo source s ts rest place long → Steps rest (Skip n)
    → LexedTo source s ts (drop n rest) (moved place (take n rest)) long
lexed_skip source s ts rest place long n l step = record {
  before = l.before ++ take n rest;
  placed = placed_more source l.before (take n rest) place l.placed;
  tokens = λ us t. l.tokens us (skips n step t);
  refuses = λ at code f. l.refuses at code (past_skip n step f);
  first = l.first;
}

first_more : (ts : List Token) (t : Token) → first_too_long (ts ++ t ∷ []) ≡ long_after (first_too_long ts) t.kind t.place
first_more [] t = refl
first_more (u ∷ ts) t = by (is_too_long u.kind) (first_more ts t)
  where
    by : (b : Bool) → first_too_long (ts ++ t ∷ []) ≡ long_after (first_too_long ts) t.kind t.place
        → cond b (Some u.place) (first_too_long (ts ++ t ∷ [])) ≡ long_after (cond b (Some u.place) (first_too_long ts)) t.kind t.place
    by true e = refl
    by false e = e

-- the token that the code makes
abbrev pub made : Kind → Place → List ℕ → Token
made kind place run = record { kind = kind; place = place; len = length run; decimal = is_plain_decimal run }

pub lexed_take : (source : ℕ) (s : List ℕ) (ts : List Token) (rest : List ℕ) (place : Place) (long : Option Place) (kind : Kind) (n : ℕ) → LexedTo source s ts rest place long → Steps rest (Take kind n)
    → LexedTo source s (ts ++ made kind place (take n rest) ∷ []) (drop n rest) (moved place (take n rest)) (long_after long kind place)
lexed_take source s ts rest place long kind n l step = record {
  before = l.before ++ take n rest;
  placed = placed_more source l.before (take n rest) place l.placed;
  tokens = λ us t.
      let all : Tokens source [] s (ts ++ (token_of source l.before kind (take n rest) ∷ us)) = l.tokens (token_of source l.before kind (take n rest) ∷ us) (takes kind n step t) in
      let same : Tokens source [] s (ts ++ (made kind place (take n rest) ∷ us)) = subst (λ p. Tokens source [] s (ts ++ (made kind p (take n rest) ∷ us))) (sym l.placed) all in
      subst (Tokens source [] s) (sym (append_assoc ts (made kind place (take n rest) ∷ []) us)) same;
  refuses = λ at code f. l.refuses at code (past_token kind n step f);
  first = first_more ts (made kind place (take n rest)) ∙ ap (λ o. long_after o kind place) l.first;
}

pub lexed_fail : (source : ℕ) (s : List ℕ) (ts : List Token) (rest : List ℕ) (place : Place) (long : Option Place) (n : ℕ) (code : Code) → LexedTo source s ts rest place long → Steps rest (Fail n code)
    → Refuses source s (record { place = moved place (take n rest); code = code })
lexed_fail source s ts rest place long n code l step =
    fails (l.before ++ take n rest) code (l.refuses (l.before ++ take n rest) code (here n step))
    (ap (λ p. record { place = p; code = code }) (placed_more source l.before (take n rest) place l.placed))

-- the tokens and the last one
done_tokens : (source : ℕ) (s : List ℕ) (ts : List Token) (rest : List ℕ) (place : Place) (long : Option Place) → LexedTo source s ts rest place long → Steps rest Done
    → Tokens source [] s (ts ++ record { kind = End; place = place; len = 0; decimal = false } ∷ [])
done_tokens source s ts rest place long l step =
    subst (λ p. Tokens source [] s (ts ++ record { kind = End; place = p; len = 0; decimal = false } ∷ [])) (sym l.placed) (l.tokens (end_of source l.before ∷ []) (ends step))

after_end : (long : Option Place) (place : Place) → long_after long End place ≡ long
after_end None place = refl
after_end (Some p) place = refl

done_first : (ts : List Token) (place : Place) (long : Option Place) → first_too_long ts ≡ long → first_too_long (ts ++ record { kind = End; place = place; len = 0; decimal = false } ∷ []) ≡ long
done_first ts place long e = first_more ts (record { kind = End; place = place; len = 0; decimal = false }) ∙ ap (λ o. long_after o End place) e ∙ after_end long place

-- what the code answers at the end
pub lexed_done : (source : ℕ) (s : List ℕ) (ts : List Token) (rest : List ℕ) (place : Place) (long : Option Place) (answer : Result (List Token) Fault) → LexedTo source s ts rest place long → Steps rest Done
    → Finishes ts place long answer → Answers source s answer
lexed_done source s ts rest place long (Ok us) l step f =
    subst (Lexes source s) (sym f.1) (record { tokens = done_tokens source s ts rest place long l step; short = done_first ts place long l.first ∙ f.0 })
lexed_done source s ts rest place long (Err (Refused r)) l step f =
    too_long (ts ++ record { kind = End; place = place; len = 0; decimal = false } ∷ []) f.0 (done_tokens source s ts rest place long l step) (done_first ts place long l.first ∙ f.1) f.2
lexed_done source s ts rest place long (Err (NoMemory none)) l step f = tt

pub answers_ok : (source : ℕ) (s : List ℕ) (answer : Result (List Token) Fault) → Answers source s answer → IfOk answer (λ ts. Lexes source s ts)
answers_ok source s (Ok ts) a = a
answers_ok source s (Err fault) a = tt

pub answers_err : (source : ℕ) (s : List ℕ) (answer : Result (List Token) Fault) → Answers source s answer → IfErr answer (RefusesRightly source s)
answers_err source s (Ok ts) a = tt
answers_err source s (Err fault) a = a
