-- Steps may be regrouped: `>>=` is associative, `pure` changes nothing, and `>>` is `>>=` without the result.
-- By cases of what the first step gives; equal at every state is equal. Assumes nothing.
use mathlib.Core.Path.{◌≡◌, refl, ap, sym, fun_ext}
use mathlib.Core.List.{List, [], ◌++◌, append_assoc}
use Rattle.conversion.specs.Ir.{Instr, Out, made, failed, M, after, bind, ◌>>=◌, ◌>>◌, pure}

after-after : {A : Type 0} (c d : List Instr) (o : Out A) → after c (after d o) ≡ after (c ++ d) o
unfolding after
after-after c d (made a e s) = ap (λ (x : List Instr). made a x s) (sym (append_assoc c d e))
after-after c d (failed k r) = refl

after-bind : {A B : Type 0} (c : List Instr) (o : Out A) (f : A → M B) → bind (after c o) f ≡ after c (bind o f)
unfolding after bind
after-bind c (made a d s) f = sym (after-after c d (f a s))
after-bind c (failed k r) f = refl

bind-bind : {A B C : Type 0} (o : Out A) (f : A → M B) (g : B → M C) → bind (bind o f) g ≡ bind o (λ a s. bind (f a s) g)
unfolding bind
bind-bind (made a c s) f g = after-bind c (f a s) g
bind-bind (failed k r) f g = refl

-- (m then f) then g is m then (f then g)
pub regroup : {A B C : Type 0} (m : M A) (f : A → M B) (g : B → M C) → (m >>= f) >>= g ≡ m >>= (λ a. f a >>= g)
unfolding ◌>>=◌
regroup m f g = fun_ext (λ s. bind-bind (m s) f g)

-- what is done first where its result is not used
pub seq_is : {A B : Type 0} (m : M A) (f : M B) → m >> f ≡ m >>= (λ a. f)
unfolding ◌>>◌ ◌>>=◌
seq_is m f = refl

pub after_none : {A : Type 0} (o : Out A) → after [] o ≡ o
unfolding after
after_none (made a c s) = refl
after_none (failed k r) = refl

pub pure-first : {A B : Type 0} (a : A) (f : A → M B) → pure a >>= f ≡ f a
unfolding ◌>>=◌ bind pure
pure-first a f = fun_ext (λ s. after_none (f a s))
