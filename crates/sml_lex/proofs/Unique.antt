-- A source has one answer.
use Rattle.std.proofs.Common.{◌≡◌, ℕ, ◌+◌, List, [], ◌∷◌, ◌++◌, length, take, drop, Some, None, Result, Ok, Err, refl, sym, ap, subst, ◌∙◌, arith}
use Rattle.tl_text.specs.declared.code.Code.{Code}
use Rattle.tl_text.specs.declared.place.Place.{Place}
use Rattle.tl_text.specs.declared.fault.Fault.{Fault}
use Rattle.tl_text.specs.declared.fault.Fault.TheVariants.{Refused, NoMemory}
use Rattle.tl_text.specs.declared.fault.Refusal.{Refusal}
use Rattle.sml_lex.specs.declared.token.Kind.TheVariants.{Lit}
use Rattle.tl_text.specs.declared.lit.Lit.TheVariants.{Text}
use Rattle.tl_text.specs.declared.code.Code.TheVariants.{NameLength}
use Rattle.sml_lex.specs.Places.{place_behind}
use Rattle.sml_lex.specs.declared.token.Token.{Token}
use Rattle.sml_lex.specs.declared.literal.Item.TheVariants.{Char, Gap, Fails}
use Rattle.sml_lex.specs.declared.step.Step.{Step}
use Rattle.sml_lex.specs.declared.step.Step.TheVariants.{Done, Skip, Take, Fail}
use Rattle.sml_lex.specs.declared.step.Start.{Start}
use Rattle.sml_lex.specs.declared.step.Start.TheVariants as starts
use Rattle.sml_lex.specs.Literals.{Body, BodyFails, closes, adds, skips as gaps, here as item_fails, behind, later}
use Rattle.sml_lex.specs.Steps.{Steps, steps_by, start_of, CommentStep, closed, unclosed, TextStep, text_reads, text_fails, CharStep, char_reads, char_fails, char_step, fail_behind, RunStep, longest, nothing, reading, step_of}
use Rattle.sml_lex.specs.Texts.{Tokens, ends, skips, takes, LexFails, here, past_skip, past_token, first_too_long, token_of, Lexes, Refuses, fails, too_long, Answers, IsOrNoMemory}
use Rattle.sml_lex.proofs.Comments.{one_end}
use Rattle.sml_lex.proofs.Runs.{same_front, same_back}

-- ---- one literal

record BodySame (vs ws : List ℕ) (n m : ℕ) : Type 0 where
  text : vs ≡ ws
  size : n ≡ m

body_same : (s vs ws : List ℕ) (n m : ℕ) → Body s vs n → Body s ws m → BodySame vs ws n m
body_same s vs ws n m (closes e) (closes f) = record { text = refl; size = refl }
body_same s vs ws n m (closes e) (adds v k f b) = absurd (let wrong = sym e ∙ f in cc)
body_same s vs ws n m (closes e) (gaps k f b) = absurd (let wrong = sym e ∙ f in cc)
body_same s vs ws n m (adds v k e b) (closes f) = absurd (let wrong = sym e ∙ f in cc)
body_same s vs ws n m (adds {vs = us} {m = p} v k e b) (adds {vs = xs} {m = q} w j f d) =
    let same : Char v k ≡ Char w j = sym e ∙ f in
    let first : v ≡ w = cc in
    let size : k ≡ j = cc in
    let rest = body_same (drop k s) us xs p q b (subst (λ i. Body (drop i s) xs q) (sym size) d) in
    record { text = (λ i. first i ∷ rest.text i); size = (λ i. size i + rest.size i) }
body_same s vs ws n m (adds v k e b) (gaps j f d) = absurd (let wrong = sym e ∙ f in cc)
body_same s vs ws n m (gaps k e b) (closes f) = absurd (let wrong = sym e ∙ f in cc)
body_same s vs ws n m (gaps k e b) (adds w j f d) = absurd (let wrong = sym e ∙ f in cc)
body_same s vs ws n m (gaps {vs = us} {m = p} k e b) (gaps {vs = xs} {m = q} j f d) =
    let same : Gap k ≡ Gap j = sym e ∙ f in
    let size : k ≡ j = cc in
    let rest = body_same (drop k s) us xs p q b (subst (λ i. Body (drop i s) xs q) (sym size) d) in
    record { text = rest.text; size = (λ i. size i + rest.size i) }

body_apart : (s vs : List ℕ) (n m : ℕ) (code : Code) → Body s vs n → BodyFails s m code → ⊥
body_apart s vs n m code (closes e) (item_fails f) = let wrong = sym e ∙ f in cc
body_apart s vs n m code (closes e) (behind v k f b) = let wrong = sym e ∙ f in cc
body_apart s vs n m code (closes e) (later k f b) = let wrong = sym e ∙ f in cc
body_apart s vs n m code (adds v k e b) (item_fails f) = let wrong = sym e ∙ f in cc
body_apart s vs n m code (adds {vs = us} {m = p} v k e b) (behind {m = q} w j f d) =
    let same : Char v k ≡ Char w j = sym e ∙ f in
    let size : k ≡ j = cc in
    body_apart (drop k s) us p q code b (subst (λ i. BodyFails (drop i s) q code) (sym size) d)
body_apart s vs n m code (adds v k e b) (later j f d) = let wrong = sym e ∙ f in cc
body_apart s vs n m code (gaps k e b) (item_fails f) = let wrong = sym e ∙ f in cc
body_apart s vs n m code (gaps k e b) (behind w j f d) = let wrong = sym e ∙ f in cc
body_apart s vs n m code (gaps {vs = us} {m = p} k e b) (later {m = q} j f d) =
    let same : Gap k ≡ Gap j = sym e ∙ f in
    let size : k ≡ j = cc in
    body_apart (drop k s) us p q code b (subst (λ i. BodyFails (drop i s) q code) (sym size) d)

record FailSame (n m : ℕ) (code other : Code) : Type 0 where
  size : n ≡ m
  reason : code ≡ other

body_fail_same : (s : List ℕ) (n m : ℕ) (code other : Code) → BodyFails s n code → BodyFails s m other → FailSame n m code other
body_fail_same s n m code other (item_fails e) (item_fails f) = let same : Fails code ≡ Fails other = sym e ∙ f in record { size = refl; reason = cc }
body_fail_same s n m code other (item_fails e) (behind w j f d) = absurd (let wrong = sym e ∙ f in cc)
body_fail_same s n m code other (item_fails e) (later j f d) = absurd (let wrong = sym e ∙ f in cc)
body_fail_same s n m code other (behind v k e b) (item_fails f) = absurd (let wrong = sym e ∙ f in cc)
body_fail_same s n m code other (behind {m = p} v k e b) (behind {m = q} w j f d) =
    let same : Char v k ≡ Char w j = sym e ∙ f in
    let size : k ≡ j = cc in
    let rest = body_fail_same (drop k s) p q code other b (subst (λ i. BodyFails (drop i s) q other) (sym size) d) in
    record { size = (λ i. size i + rest.size i); reason = rest.reason }
body_fail_same s n m code other (behind v k e b) (later j f d) = absurd (let wrong = sym e ∙ f in cc)
body_fail_same s n m code other (later k e b) (item_fails f) = absurd (let wrong = sym e ∙ f in cc)
body_fail_same s n m code other (later k e b) (behind w j f d) = absurd (let wrong = sym e ∙ f in cc)
body_fail_same s n m code other (later {m = p} k e b) (later {m = q} j f d) =
    let same : Gap k ≡ Gap j = sym e ∙ f in
    let size : k ≡ j = cc in
    let rest = body_fail_same (drop k s) p q code other b (subst (λ i. BodyFails (drop i s) q other) (sym size) d) in
    record { size = (λ i. size i + rest.size i); reason = rest.reason }

-- ---- one step

comment_same : (s : List ℕ) (x y : Step) → CommentStep s x → CommentStep s y → x ≡ y
comment_same s x y (closed n c e) (closed m d f) = e ∙ ap (λ k. Skip (k + 2)) (one_end s n m c d) ∙ sym f
comment_same s x y (closed n c e) (unclosed none f) = absurd (none n c)
comment_same s x y (unclosed none e) (closed m d f) = absurd (none m d)
comment_same s x y (unclosed none e) (unclosed other f) = e ∙ sym f

text_same : (s : List ℕ) (x y : Step) → TextStep s x → TextStep s y → x ≡ y
text_same s x y (text_reads vs n b e) (text_reads ws m d f) =
    let same = body_same s vs ws n m b d in
    e ∙ (λ i. Take (Lit (Text (same.text i))) (same.size i + 1)) ∙ sym f
text_same s x y (text_reads vs n b e) (text_fails m code d f) = absurd (body_apart s vs n m code b d)
text_same s x y (text_fails n code b e) (text_reads ws m d f) = absurd (body_apart s ws m n code d b)
text_same s x y (text_fails n code b e) (text_fails m other d f) =
    let same = body_fail_same s n m code other b d in
    e ∙ (λ i. fail_behind 0 (same.size i) (same.reason i)) ∙ sym f

char_same : (s : List ℕ) (x y : Step) → CharStep s x → CharStep s y → x ≡ y
char_same s x y (char_reads vs n b e) (char_reads ws m d f) =
    let same = body_same s vs ws n m b d in
    e ∙ (λ i. char_step (same.text i) (same.size i)) ∙ sym f
char_same s x y (char_reads vs n b e) (char_fails m code d f) = absurd (body_apart s vs n m code b d)
char_same s x y (char_fails n code b e) (char_reads ws m d f) = absurd (body_apart s ws m n code d b)
char_same s x y (char_fails n code b e) (char_fails m other d f) =
    let same = body_fail_same s n m code other b d in
    e ∙ (λ i. fail_behind 1 (same.size i) (same.reason i)) ∙ sym f

run_same : (s : List ℕ) (x y : Step) → RunStep s x → RunStep s y → x ≡ y
run_same s x y (longest u v r l e) (longest w z q k f) =
    let size : length u ≡ length w = omega (arith, l.most w z q k.begins, k.most u v r l.begins) in
    let both : u ++ v ≡ w ++ z = sym l.begins.whole ∙ k.begins.whole in
    let front : u ≡ w = same_front u v w z both size in
    let back : v ≡ z = same_back u v w z both size in
    let reads : Some r ≡ Some q = sym l.begins.reads ∙ (λ i. reading (front i) (back i)) ∙ k.begins.reads in
    let same : r ≡ q = cc in
    e ∙ (λ i. step_of (same i) (size i)) ∙ sym f
run_same s x y (longest u v r l e) (nothing none f) = absurd (none u v r l.begins)
run_same s x y (nothing none e) (longest w z q k f) = absurd (none w z q k.begins)
run_same s x y (nothing none e) (nothing other f) = e ∙ sym f

steps_same_by : (start : Start) (s : List ℕ) (x y : Step) → steps_by start s x → steps_by start s y → x ≡ y
steps_same_by starts.End s x y e f = e ∙ sym f
steps_same_by starts.White s x y e f = e ∙ sym f
steps_same_by starts.Comment s x y e f = comment_same (drop 2 s) x y e f
steps_same_by starts.Text s x y e f = text_same (drop 1 s) x y e f
steps_same_by starts.Char s x y e f = char_same (drop 2 s) x y e f
steps_same_by starts.Run s x y e f = run_same s x y e f

pub steps_same : (s : List ℕ) (x y : Step) → Steps s x → Steps s y → x ≡ y
steps_same s x y e f = steps_same_by (start_of s) s x y e f

-- ---- one answer

pub tokens_same : (source : ℕ) (before s : List ℕ) (ts us : List Token) → Tokens source before s ts → Tokens source before s us → ts ≡ us
tokens_same source before s ts us (ends e) (ends f) = refl
tokens_same source before s ts us (ends e) (skips m f d) = absurd (let wrong = steps_same s Done (Skip m) e f in cc)
tokens_same source before s ts us (ends e) (takes kind m f d) = absurd (let wrong = steps_same s Done (Take kind m) e f in cc)
tokens_same source before s ts us (skips n e b) (ends f) = absurd (let wrong = steps_same s (Skip n) Done e f in cc)
tokens_same source before s ts us (skips n e b) (skips m f d) =
    let same : Skip n ≡ Skip m = steps_same s (Skip n) (Skip m) e f in
    let size : m ≡ n = cc in
    tokens_same source (before ++ take n s) (drop n s) ts us b (subst (λ k. Tokens source (before ++ take k s) (drop k s) us) size d)
tokens_same source before s ts us (skips n e b) (takes kind m f d) = absurd (let wrong = steps_same s (Skip n) (Take kind m) e f in cc)
tokens_same source before s ts us (takes kind n e b) (ends f) = absurd (let wrong = steps_same s (Take kind n) Done e f in cc)
tokens_same source before s ts us (takes kind n e b) (skips m f d) = absurd (let wrong = steps_same s (Take kind n) (Skip m) e f in cc)
tokens_same source before s ts us (takes {ts = vs} kind n e b) (takes {ts = ws} other m f d) =
    let same : Take kind n ≡ Take other m = steps_same s (Take kind n) (Take other m) e f in
    let size : m ≡ n = cc in
    let kinds : kind ≡ other = cc in
    let rest : vs ≡ ws = tokens_same source (before ++ take n s) (drop n s) vs ws b (subst (λ k. Tokens source (before ++ take k s) (drop k s) ws) size d) in
    (λ i. token_of source before (kinds i) (take n s) ∷ rest i) ∙ ap (λ k. token_of source before other (take k s) ∷ ws) (sym size)

pub tokens_apart : (source : ℕ) (before s : List ℕ) (ts : List Token) (at : List ℕ) (code : Code) → Tokens source before s ts → LexFails before s at code → ⊥
tokens_apart source before s ts at code (ends e) (here m f) = let wrong = steps_same s Done (Fail m code) e f in cc
tokens_apart source before s ts at code (ends e) (past_skip m f d) = let wrong = steps_same s Done (Skip m) e f in cc
tokens_apart source before s ts at code (ends e) (past_token kind m f d) = let wrong = steps_same s Done (Take kind m) e f in cc
tokens_apart source before s ts at code (skips n e b) (here m f) = let wrong = steps_same s (Skip n) (Fail m code) e f in cc
tokens_apart source before s ts at code (skips n e b) (past_skip m f d) =
    let same : Skip n ≡ Skip m = steps_same s (Skip n) (Skip m) e f in
    let size : m ≡ n = cc in
    tokens_apart source (before ++ take n s) (drop n s) ts at code b (subst (λ k. LexFails (before ++ take k s) (drop k s) at code) size d)
tokens_apart source before s ts at code (skips n e b) (past_token kind m f d) = let wrong = steps_same s (Skip n) (Take kind m) e f in cc
tokens_apart source before s ts at code (takes kind n e b) (here m f) = let wrong = steps_same s (Take kind n) (Fail m code) e f in cc
tokens_apart source before s ts at code (takes kind n e b) (past_skip m f d) = let wrong = steps_same s (Take kind n) (Skip m) e f in cc
tokens_apart source before s ts at code (takes {ts = vs} kind n e b) (past_token other m f d) =
    let same : Take kind n ≡ Take other m = steps_same s (Take kind n) (Take other m) e f in
    let size : m ≡ n = cc in
    tokens_apart source (before ++ take n s) (drop n s) vs at code b (subst (λ k. LexFails (before ++ take k s) (drop k s) at code) size d)

record Same (at to : List ℕ) (code other : Code) : Type 0 where
  place : at ≡ to
  reason : code ≡ other

fails_same : (before s at to : List ℕ) (code other : Code) → LexFails before s at code → LexFails before s to other → Same at to code other
fails_same before s at to code other (here n e) (here m f) =
    let same : Fail n code ≡ Fail m other = steps_same s (Fail n code) (Fail m other) e f in
    let size : n ≡ m = cc in
    record { place = ap (λ k. before ++ take k s) size; reason = cc }
fails_same before s at to code other (here n e) (past_skip m f d) = absurd (let wrong = steps_same s (Fail n code) (Skip m) e f in cc)
fails_same before s at to code other (here n e) (past_token kind m f d) = absurd (let wrong = steps_same s (Fail n code) (Take kind m) e f in cc)
fails_same before s at to code other (past_skip n e b) (here m f) = absurd (let wrong = steps_same s (Skip n) (Fail m other) e f in cc)
fails_same before s at to code other (past_skip n e b) (past_skip m f d) =
    let same : Skip n ≡ Skip m = steps_same s (Skip n) (Skip m) e f in
    let size : m ≡ n = cc in
    fails_same (before ++ take n s) (drop n s) at to code other b (subst (λ k. LexFails (before ++ take k s) (drop k s) to other) size d)
fails_same before s at to code other (past_skip n e b) (past_token kind m f d) = absurd (let wrong = steps_same s (Skip n) (Take kind m) e f in cc)
fails_same before s at to code other (past_token kind n e b) (here m f) = absurd (let wrong = steps_same s (Take kind n) (Fail m other) e f in cc)
fails_same before s at to code other (past_token kind n e b) (past_skip m f d) = absurd (let wrong = steps_same s (Take kind n) (Skip m) e f in cc)
fails_same before s at to code other (past_token kind n e b) (past_token kinds m f d) =
    let same : Take kind n ≡ Take kinds m = steps_same s (Take kind n) (Take kinds m) e f in
    let size : m ≡ n = cc in
    fails_same (before ++ take n s) (drop n s) at to code other b (subst (λ k. LexFails (before ++ take k s) (drop k s) to other) size d)

some_none : (p : Place) → None ≡ Some p → ⊥
some_none p e = cc

refuses_lexes : (source : ℕ) (s : List ℕ) (ts : List Token) (r : Refusal) → Lexes source s ts → Refuses source s r → ⊥
refuses_lexes source s ts r l (fails at code f e) = tokens_apart source [] s ts at code l.tokens f
refuses_lexes source s ts r l (too_long us place t first e) =
    some_none place (sym l.short ∙ ap first_too_long (tokens_same source [] s ts us l.tokens t) ∙ first)

refuses_same : (source : ℕ) (s : List ℕ) (r q : Refusal) → Refuses source s r → Refuses source s q → r ≡ q
refuses_same source s r q (fails at code f e) (fails to other g h) =
    let same = fails_same [] s at to code other f g in
    e ∙ (λ i. record { place = place_behind source (same.place i); code = same.reason i }) ∙ sym h
refuses_same source s r q (fails at code f e) (too_long us place t first h) = absurd (tokens_apart source [] s us at code t f)
refuses_same source s r q (too_long us place t first e) (fails to other g h) = absurd (tokens_apart source [] s us to other t g)
refuses_same source s r q (too_long us place t first e) (too_long vs other v second h) =
    let ones : Some place ≡ Some other = sym first ∙ ap first_too_long (tokens_same source [] s us vs t v) ∙ second in
    let same : place ≡ other = cc in
    e ∙ ap (λ p. record { place = p; code = NameLength }) same ∙ sym h

-- an answer that says what holds is the one
pub only_tokens : (source : ℕ) (s : List ℕ) (answer : Result (List Token) Fault) → Answers source s answer → (ts : List Token) → Lexes source s ts → IsOrNoMemory answer (Ok ts)
only_tokens source s (Ok us) a ts l = ap Ok (tokens_same source [] s us ts a.tokens l.tokens)
only_tokens source s (Err (Refused r)) a ts l = absurd (refuses_lexes source s ts r l a)
only_tokens source s (Err (NoMemory none)) a ts l = tt

pub only_refusal : (source : ℕ) (s : List ℕ) (answer : Result (List Token) Fault) → Answers source s answer → (r : Refusal) → Refuses source s r → IsOrNoMemory answer (Err (Refused r))
only_refusal source s (Ok us) a r f = absurd (refuses_lexes source s us r a f)
only_refusal source s (Err (Refused q)) a r f = ap (λ x. Err (Refused x)) (refuses_same source s q r a f)
only_refusal source s (Err (NoMemory none)) a r f = tt
