-- An instruction is eight words: its fields, written as two runs of four.
-- Each word by the laws of words as bytes. Assumes nothing.
use mathlib.Core.Path.{◌≡◌, sym, ap, ap₂, ◌∙◌}
use mathlib.Core.List.{List, [], ◌∷◌, ◌++◌}
use Prim.Native.Nat.{ℕ, ◌+◌, ◌*◌, ◌/◌, ◌%◌, ◌≤◌, ◌<◌}
use native.Mathlib.Omega.{arith}
use lib.ListN.{length}
use Rattle.laws.specs.Splice.{splice}
use Rattle.records.specs.Words.{bytes_of, word}
use Rattle.records.proofs.WordLaws.{word_head, wide-words, put_eight}
use Rattle.ir.specs.declared.structs.Fields.{Fields}
use Rattle.ir.specs.Instructions.{kind_number, tag_number, field_bytes}

-- an instruction's eight words
pub field_words : (f : Fields) → kind_number f.kind < 256 → f.operator < 256 → tag_number f.first.tag < 256 → tag_number f.second.tag < 256
    → word (kind_number f.kind + f.operator * 256 + tag_number f.first.tag * 65536 + tag_number f.second.tag * 16777216) ++ word f.target
    ++ word (f.first.value % 4294967296) ++ word (f.first.value / 4294967296)
    ++ word (f.second.value % 4294967296) ++ word (f.second.value / 4294967296) ++ word f.owner ++ word 0
    ≡ field_bytes f
unfolding field_bytes word bytes_of
field_words f hk ho ha hb =
    let x = f.first.value in
    let y = f.second.value in
    ap (λ (z : List ℕ). z ++ word f.target ++ word (x % 4294967296) ++ word (x / 4294967296) ++ word (y % 4294967296) ++ word (y / 4294967296)
    ++ word f.owner ++ word 0)
    (word_head (kind_number f.kind) f.operator (tag_number f.first.tag) (tag_number f.second.tag) hk ho ha hb)
    ∙ sym
    (ap₂ (λ (u v : List ℕ). (kind_number f.kind ∷ f.operator ∷ tag_number f.first.tag ∷ tag_number f.second.tag ∷ []) ++ word f.target ++ u ++ v ++ word f.owner ++ word 0)
    (wide-words x) (wide-words y))

pub put_fields : (f : Fields) (l l₁ l₂ : List ℕ) (at w₁ w₂ w₃ w₄ a b c d : ℕ) → at + 32 ≤ length l
    → (w₁ ≡ kind_number f.kind) × (w₁ < 256) → (w₂ ≡ f.operator) × (w₂ < 256) → (w₃ ≡ tag_number f.first.tag) × (w₃ < 256) → (w₄ ≡ tag_number f.second.tag) × (w₄ < 256)
    → a ≡ f.first.value % 4294967296 → b ≡ f.first.value / 4294967296
    → c ≡ f.second.value % 4294967296 → d ≡ f.second.value / 4294967296
    → l₁ ≡ splice l at (word (w₁ + w₂ * 256 + w₃ * 65536 + w₄ * 16777216) ++ word f.target ++ word a ++ word b)
    → l₂ ≡ splice l₁ (at + 16) (word c ++ word d ++ word f.owner ++ word 0)
    → l₂ ≡ splice l at (field_bytes f)
put_fields f l l₁ l₂ at w₁ w₂ w₃ w₄ a b c d room e₁ e₂ e₃ e₄ ea eb ec ed p q =
    put_eight l l₁ l₂ at _ _ _ _ _ _ _ _ room p q
    ∙ ap (splice l at)
    (rw (e₁.0, e₂.0, e₃.0, e₄.0, ea, eb, ec, ed)
    (field_words f (omega arith) (omega arith) (omega arith) (omega arith)))
