-- What phrases begin with.
use Rattle.std.proofs.Common.{◌≡◌, Bool, true, false, List, ◌∷◌, ◌++◌, Option, Some, None, ap, ◌∙◌}
use Rattle.readers.specs.Reader.{first, head_is}
use Rattle.readers.specs.Language.{Joined, That, Shows}

-- a token that passes one test answers so to another
pub head_to : {K : Type 0} (t u : K → Bool) → ((c : K) → t c ≡ true → u c ≡ true) → (o : Option K) → head_is t o ≡ true → head_is u o ≡ true
head_to t u f None e = e
head_to t u f (Some c) e = f c e

pub head_other : {K : Type 0} (t u : K → Bool) → ((c : K) → t c ≡ true → u c ≡ false) → (o : Option K) → head_is t o ≡ true → head_is u o ≡ false
head_other t u f None e = absurd cc
head_other t u f (Some c) e = f c e

-- a phrase behind a token begins with it, also before more
pub that_first : {K : Type 0} (test : K → Bool) (P : List K → Type 0) (w r : List K) → Joined (That test) P w → head_is test (first (w ++ r)) ≡ true
that_first {K} test P w r d =
    let l = d.left in
    let whole : w ≡ l.token ∷ d.back = d.whole ∙ ap (λ (z : List K). z ++ d.back) l.whole in
    ap (λ (z : List K). head_is test (first (z ++ r))) whole ∙ l.fits

pub that_begins : {K : Type 0} (test : K → Bool) (P : List K → Type 0) (w : List K) → Joined (That test) P w → head_is test (first w) ≡ true
that_begins {K} test P w d =
    let l = d.left in
    let whole : w ≡ l.token ∷ d.back = d.whole ∙ ap (λ (z : List K). z ++ d.back) l.whole in
    ap (λ (z : List K). head_is test (first z)) whole ∙ l.fits

-- a token that shows something, where the test says so of each such token
pub shows_begins : {K A : Type 0} (view : K → Option A) (test : K → Bool) → ((c : K) (a : A) → view c ≡ Some a → test c ≡ true) → (a : A) (w : List K) → Shows view a w → head_is test (first w) ≡ true
shows_begins {K} view test f a w d = ap (λ (z : List K). head_is test (first z)) d.whole ∙ f d.token a d.shows

pub shows_first : {K A : Type 0} (view : K → Option A) (test : K → Bool) → ((c : K) (a : A) → view c ≡ Some a → test c ≡ true) → (P : List K → Type 0) (a : A) (w r : List K) → Joined (Shows view a) P w → head_is test (first (w ++ r)) ≡ true
shows_first {K} view test f P a w r d =
    let l = d.left in
    let whole : w ≡ l.token ∷ d.back = d.whole ∙ ap (λ (z : List K). z ++ d.back) l.whole in
    ap (λ (z : List K). head_is test (first (z ++ r))) whole ∙ f l.token a l.shows
