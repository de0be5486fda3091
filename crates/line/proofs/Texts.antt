-- Texts at the front of a buffer.
use Rattle.std.proofs.Common.{◌≡◌, ℕ, ◌+◌, ◌-◌, ◌<◌, ◌≤◌, List, [], ◌∷◌, ◌++◌, length, take, drop, set, sym, refl, ap, ◌∙◌, arith, length-append}
use borrow.Rule.Slice.PartMut.{put_mid}
use Rattle.std.proofs.lemmas.List.{append_assoc, take_at, drop_at, drop-drop, drop_more, set_at}

-- a text with another behind it
pub more_text : (text more b c d : List ℕ) (n m : ℕ) → c ≡ text ++ drop n b → length text ≡ n → m ≡ n + length more → d ≡ take n c ++ (more ++ drop m c) → d ≡ (text ++ more) ++ drop m b
more_text text more b c d n m e l f g =
    let front : take n c ≡ text = ap (take n) e ∙ take_at text (drop n b) n l in
    let back : drop n c ≡ drop n b = ap (drop n) e ∙ drop_at text (drop n b) n l in
    let rest : drop m c ≡ drop m b = ap (λ k. drop k c) f ∙ sym (drop-drop (length more) n c) ∙ ap (drop (length more)) back ∙ drop-drop (length more) n b ∙ ap (λ k. drop k b) (sym f) in
    g ∙ ap (λ x. x ++ (more ++ drop m c)) front ∙ ap (λ x. text ++ (more ++ x)) rest ∙ sym (append_assoc text more (drop m b))

-- a text with one byte behind it
pub push_text : (text b c : List ℕ) (n y : ℕ) → c ≡ text ++ drop n b → length text ≡ n → n < length b → set c n y ≡ (text ++ (y ∷ [])) ++ drop (n + 1) b
push_text text b c n y e l lt =
    ap (λ x. set x n y) (e ∙ ap (λ x. text ++ x) (drop_more b n 0 lt))
    ∙ set_at text _ (drop (n + 1) b) y n l
    ∙ sym (append_assoc text (y ∷ []) (drop (n + 1) b))

put_at : (c s : List ℕ) (n : ℕ) → put_mid n (length s) c s ≡ take n c ++ (s ++ drop (n + length s) c)
put_at c s n = ap (λ z. take n c ++ (s ++ z)) (drop-drop (length s) n c)

-- a head and a name, each copied to its place, and a newline behind them
pub copied_text : (h s b r x y : List ℕ) → r ≡ s → x ≡ h → y ≡ r → length h ≡ 10 → length r ≤ 16 → 27 ≤ length b → set (put_mid 10 (10 + length r - 10) (x ++ drop 10 b) y) (10 + length r) 10 ≡ (h ++ (s ++ (10 ∷ []))) ++ drop (length (h ++ (s ++ (10 ∷ [])))) b
copied_text h s b r x y e f g lh few long =
    let n : length r ≡ length s = ap length e in
    let k : 10 + length r - 10 ≡ length s = omega (arith, n) in
    let c = h ++ drop 10 b in
    let named = more_text h s b c _ 10 (10 + length s) refl lh refl (put_at c s 10) in
    let ended = push_text (h ++ s) b _ (10 + length s) 10 named (omega (arith, length-append h s)) (omega arith) in
    let all : 10 + length s + 1 ≡ length (h ++ (s ++ (10 ∷ []))) = omega (arith, length-append h (s ++ (10 ∷ [])), length-append s (10 ∷ [])) in
    (λ i. set (put_mid 10 (k i) (f i ++ drop 10 b) ((g ∙ e) i)) (10 + n i) 10)
    ∙ ended
    ∙ ap (λ t. t ++ drop (10 + length s + 1) b) (append_assoc h s (10 ∷ []))
    ∙ ap (λ m. (h ++ (s ++ (10 ∷ []))) ++ drop m b) all
