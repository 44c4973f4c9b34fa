-- What stops expressions, at each level of tightness.
use Rattle.std.proofs.Common.{◌≡◌, ℕ, Bool, true, false, not, ◌&&◌, List, [], ◌∷◌, Option, Some, None, refl, sym, ap, ◌∙◌}
use Rattle.readers.specs.Reader.{head_is}
use Rattle.readers.specs.Exact.{row_stop}
use Rattle.readers.proofs.Grow.{two_are}
use Rattle.readers.proofs.Row.{not_false}
use Rattle.sml_lex.specs.declared.token.Token.{Token}
use Rattle.sml_grammar.specs.Words.{ANDALSO, HANDLE, ORELSE, COLON, BAR}
use Rattle.sml_grammar.specs.Tokens.{Firsts, just, is, plain_fix, tokens_of}
use Rattle.sml_grammar.proofs.Sets.{is_just, apart, apart_is}
use Rattle.sml_grammar.proofs.Shapes.{stops, word_halts}
use Rattle.sml_grammar.proofs.Types.{ty_goes}
use Rattle.sml_grammar_exp.specs.Exps.{Reach, Ends, farther, match_ends, near, takes_bar, Ex, Ru, match_end}
use Rattle.sml_grammar_exp.specs.ReadDecs.{row_goes}

abbrev pub inner_stop : Bool → Option Token → Bool
inner_stop true o = stops ty_goes o
inner_stop false o = stops row_goes o

abbrev pub no_word : ℕ → Option Token → Bool
no_word k o = not (head_is (is k) o)

abbrev pub bar_stop : Reach → Option Token → Bool
bar_stop Reach.Near o = true
bar_stop Reach.Far o = true
bar_stop Reach.Match o = no_word BAR o

-- with a type, with `andalso`, with `orelse`, with `handle`
abbrev pub colon_stop : Bool → Option Token → Bool
colon_stop t o = inner_stop t o && no_word COLON o

abbrev pub andalso_stop : Bool → Option Token → Bool
andalso_stop t o = colon_stop t o && no_word ANDALSO o

abbrev pub orelse_stop : Bool → Option Token → Bool
orelse_stop t o = andalso_stop t o && no_word ORELSE o

abbrev pub handle_stop : Bool → Option Token → Bool
handle_stop t o = orelse_stop t o && no_word HANDLE o

-- what stops a whole expression that ends so
abbrev pub full_stop : Bool → Reach → Option Token → Bool
full_stop t r o = handle_stop t o && bar_stop r o

abbrev pub end_stop : Ends → Option Token → Bool
end_stop e o = full_stop e.typed e.reach o

-- at a level, where a form that reaches far takes all that follows
abbrev pub level_stop : (Bool → Option Token → Bool) → Reach → Bool → Option Token → Bool
level_stop stop Reach.Near t o = stop t o
level_stop stop Reach.Far t o = full_stop t Reach.Far o
level_stop stop Reach.Match t o = full_stop t Reach.Match o

abbrev pub typed_stop : Ex → Option Token → Bool
typed_stop x o = level_stop colon_stop x.0.1.reach x.0.1.typed o

abbrev pub and_stop : Ex → Option Token → Bool
and_stop x o = level_stop andalso_stop x.0.1.reach x.0.1.typed o

abbrev pub or_stop : Ex → Option Token → Bool
or_stop x o = level_stop orelse_stop x.0.1.reach x.0.1.typed o

abbrev pub exp_stop : Ex → Option Token → Bool
exp_stop x o = end_stop x.0.1 o

abbrev pub rule_stop : Ru → Option Token → Bool
rule_stop x o = end_stop x.0.1 o

-- ---- from level to level

again_last : (y h b : Bool) → ((y && h) && b) ≡ (((y && h) && b) && h)
again_last true true true = refl
again_last true true false = refl
again_last true false b = refl
again_last false h b = refl

again_next : (y r h b : Bool) → (((y && r) && h) && b) ≡ ((((y && r) && h) && b) && r)
again_next true true true true = refl
again_next true true true false = refl
again_next true true false b = refl
again_next true false h b = refl
again_next false r h b = refl

again_third : (y a r h b : Bool) → ((((y && a) && r) && h) && b) ≡ (((((y && a) && r) && h) && b) && a)
again_third true true true true true = refl
again_third true true true true false = refl
again_third true true true false b = refl
again_third true true false h b = refl
again_third true false r h b = refl
again_third false a r h b = refl

and_true : (x : Bool) → (x && true) ≡ x
and_true true = refl
and_true false = refl

pub and_from : (r : Reach) (t : Bool) (o : Option Token) → level_stop andalso_stop r t o ≡ (level_stop colon_stop r t o && no_word ANDALSO o)
and_from Reach.Near t o = refl
and_from Reach.Far t o = again_third (colon_stop t o) (no_word ANDALSO o) (no_word ORELSE o) (no_word HANDLE o) true
and_from Reach.Match t o = again_third (colon_stop t o) (no_word ANDALSO o) (no_word ORELSE o) (no_word HANDLE o) (no_word BAR o)

pub or_from : (r : Reach) (t : Bool) (o : Option Token) → level_stop orelse_stop r t o ≡ (level_stop andalso_stop r t o && no_word ORELSE o)
or_from Reach.Near t o = refl
or_from Reach.Far t o = again_next (andalso_stop t o) (no_word ORELSE o) (no_word HANDLE o) true
or_from Reach.Match t o = again_next (andalso_stop t o) (no_word ORELSE o) (no_word HANDLE o) (no_word BAR o)

pub full_from : (r : Reach) (t : Bool) (o : Option Token) → full_stop t r o ≡ (level_stop orelse_stop r t o && no_word HANDLE o)
full_from Reach.Near t o = and_true (handle_stop t o)
full_from Reach.Far t o = again_last (orelse_stop t o) (no_word HANDLE o) true
full_from Reach.Match t o = again_last (orelse_stop t o) (no_word HANDLE o) (no_word BAR o)

-- a form that reaches far is stopped alike at each level
pub far_level : (stop : Bool → Option Token → Bool) (r : Reach) (t : Bool) (o : Option Token) → near r ≡ false → full_stop t r o ≡ level_stop stop r t o
far_level stop Reach.Near t o e = let no : true ≡ false = e in absurd cc
far_level stop Reach.Far t o e = refl
far_level stop Reach.Match t o e = refl

-- it is stopped as what it ends with
pub far_same : (t : Bool) (r : Reach) (o : Option Token) → full_stop t r o ≡ full_stop t (farther r) o
far_same t Reach.Near o = refl
far_same t Reach.Far o = refl
far_same t Reach.Match o = refl

pub far_is_far : (r : Reach) → near (farther r) ≡ false
far_is_far Reach.Near = refl
far_is_far Reach.Far = refl
far_is_far Reach.Match = refl

-- ---- matches

bar_again : (y b : Bool) → ((y && b) && b) ≡ (y && b)
bar_again true true = refl
bar_again true false = refl
bar_again false b = refl

bar_behind : (y : Bool) (r : Reach) (o : Option Token) → ((y && bar_stop r o) && no_word BAR o) ≡ (y && no_word BAR o)
bar_behind y Reach.Near o = ap (λ (x : Bool). x && no_word BAR o) (and_true y)
bar_behind y Reach.Far o = ap (λ (x : Bool). x && no_word BAR o) (and_true y)
bar_behind y Reach.Match o = bar_again y (no_word BAR o)

-- of a match the last rule tells how it ends
pub match_stops : (r : Ru) (rs : List Ru) (o : Option Token) → row_stop (is BAR) rule_stop (r ∷ rs) o ≡ end_stop (match_ends (match_end (r ∷ rs))) o
match_stops r [] o = bar_behind (handle_stop r.0.1.typed o) r.0.1.reach o
match_stops r (q ∷ rs) o = match_stops q rs o

-- ---- what no expression goes on with

-- the words with which some expression may go on
other_word : (a : Firsts) (j : ℕ) → apart a (just j) ≡ true → (c : Token) → tokens_of a c ≡ true → no_word j (Some c) ≡ true
other_word a j e c i = not_false (is j c) (is_just plain_fix j c ∙ apart_is plain_fix plain_fix a (just j) e c i)

-- no token of the set goes on with an expression
abbrev pub apart_all : Firsts → Bool
apart_all a = (((((apart a ty_goes && apart a row_goes) && apart a (just COLON)) && apart a (just ANDALSO)) && apart a (just ORELSE)) && apart a (just HANDLE)) && apart a (just BAR)

both_parts : (a b : Bool) → (a && b) ≡ true → (a ≡ true) × (b ≡ true)
both_parts true b e = (refl, e)
both_parts false b e = let no : false ≡ true = e in absurd cc

pub set_halts : (a : Firsts) → apart_all a ≡ true → (t : Bool) (r : Reach) (c : Token) → tokens_of a c ≡ true → full_stop t r (Some c) ≡ true
set_halts a e t r c i =
    let s6 = both_parts _ _ e in
    let s5 = both_parts _ _ s6.0 in
    let s4 = both_parts _ _ s5.0 in
    let s3 = both_parts _ _ s4.0 in
    let s2 = both_parts _ _ s3.0 in
    let s1 = both_parts _ _ s2.0 in
    two_are _ _ (two_are _ _ (two_are _ _ (two_are _ _ (two_are _ _ (inner t s1.0 s1.1) (other_word a COLON s2.1 c i)) (other_word a ANDALSO s3.1 c i)) (other_word a ORELSE s4.1 c i)) (other_word a HANDLE s5.1 c i)) (bars r s6.1)
  where
    inner : (t : Bool) → apart a ty_goes ≡ true → apart a row_goes ≡ true → inner_stop t (Some c) ≡ true
    inner true x y = not_false (tokens_of ty_goes c) (apart_is plain_fix plain_fix a ty_goes x c i)
    inner false x y = not_false (tokens_of row_goes c) (apart_is plain_fix plain_fix a row_goes y c i)

    bars : (r : Reach) → apart a (just BAR) ≡ true → bar_stop r (Some c) ≡ true
    bars Reach.Near x = refl
    bars Reach.Far x = refl
    bars Reach.Match x = other_word a BAR x c i

-- a word that goes on with none
pub exp_halts : (k : ℕ) → apart_all (just k) ≡ true → (x : Ex) (c : Token) → is k c ≡ true → exp_stop x (Some c) ≡ true
exp_halts k e x c i = set_halts (just k) e x.0.1.typed x.0.1.reach c (sym (is_just plain_fix k c) ∙ i)

-- a word with which near expressions go on, but none that is tighter
pub near_halts : (stop : Bool → Option Token → Bool) (c : Token) → ((t : Bool) → stop t (Some c) ≡ true) → (r : Reach) (t : Bool) → near r ≡ true → level_stop stop r t (Some c) ≡ true
near_halts stop c f Reach.Near t e = f t
near_halts stop c f Reach.Far t e = let no : false ≡ true = e in absurd cc
near_halts stop c f Reach.Match t e = let no : false ≡ true = e in absurd cc

pub is_word : (k : ℕ) (c : Token) → is k c ≡ true → tokens_of (just k) c ≡ true
is_word k c i = sym (is_just plain_fix k c) ∙ i

pub inner_halts : (k : ℕ) → apart (just k) ty_goes ≡ true → apart (just k) row_goes ≡ true → (c : Token) → is k c ≡ true → (t : Bool) → inner_stop t (Some c) ≡ true
inner_halts k x y c i true = word_halts k ty_goes x c i
inner_halts k x y c i false = word_halts k row_goes y c i

pub colon_halts : (k : ℕ) → apart (just k) ty_goes ≡ true → apart (just k) row_goes ≡ true → apart (just k) (just COLON) ≡ true → (c : Token) → is k c ≡ true → (t : Bool) → colon_stop t (Some c) ≡ true
colon_halts k x y z c i t = two_are _ _ (inner_halts k x y c i t) (other_word (just k) COLON z c (is_word k c i))

pub andalso_halts : (k : ℕ) → apart (just k) ty_goes ≡ true → apart (just k) row_goes ≡ true → apart (just k) (just COLON) ≡ true → apart (just k) (just ANDALSO) ≡ true → (c : Token) → is k c ≡ true → (t : Bool) → andalso_stop t (Some c) ≡ true
andalso_halts k x y z a c i t = two_are _ _ (colon_halts k x y z c i t) (other_word (just k) ANDALSO a c (is_word k c i))

pub orelse_halts : (k : ℕ) → apart (just k) ty_goes ≡ true → apart (just k) row_goes ≡ true → apart (just k) (just COLON) ≡ true → apart (just k) (just ANDALSO) ≡ true → apart (just k) (just ORELSE) ≡ true → (c : Token) → is k c ≡ true → (t : Bool) → orelse_stop t (Some c) ≡ true
orelse_halts k x y z a b c i t = two_are _ _ (andalso_halts k x y z a c i t) (other_word (just k) ORELSE b c (is_word k c i))

-- a bar begins a rule or a clause where no match takes it
pub bar_next : (t : Bool) (q : Reach) (c : Token) → not (takes_bar q) ≡ true → is BAR c ≡ true → full_stop t q (Some c) ≡ true
bar_next t q c e i = go q e
  where
    before_handle : handle_stop t (Some c) ≡ true
    before_handle = two_are _ _ (orelse_halts BAR refl refl refl refl refl c i t) (other_word (just BAR) HANDLE refl c (is_word BAR c i))

    go : (q : Reach) → not (takes_bar q) ≡ true → full_stop t q (Some c) ≡ true
    go Reach.Near e = two_are _ _ before_handle refl
    go Reach.Far e = two_are _ _ before_handle refl
    go Reach.Match e = let no : false ≡ true = e in absurd cc

-- the end of the text stops each
pub exp_none : (t : Bool) (r : Reach) → full_stop t r None ≡ true
exp_none true Reach.Near = refl
exp_none true Reach.Far = refl
exp_none true Reach.Match = refl
exp_none false Reach.Near = refl
exp_none false Reach.Far = refl
exp_none false Reach.Match = refl
