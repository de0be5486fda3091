-- The line of an event, byte by byte.
use Rattle.std.specs.Prelude.{◌≡◌, ℕ, ◌+◌, ◌/◌, ◌%◌, ◌<◌, ◌≤◌, List, [], ◌∷◌, ◌++◌, length, take, drop, Ok, Err, Result}
use Rattle.rules.specs.declared.refusal.Refusal.{Refusal}
use Rattle.rules.specs.declared.refusal.Refusal.TheVariants.{ShortBuffer}
use Rattle.line.specs.declared.event.Event.{Event}
use Rattle.line.specs.declared.event.Event.TheVariants.{Order, Finish}

-- the last decimal digit
abbrev pub digit : ℕ → ℕ
digit n = 48 + n % 10

-- O for an order, F for a finish
abbrev pub letter_of : Event → ℕ
letter_of Order = 79
letter_of Finish = 70

-- the minute's last four digits, the letter and the point's last two, each with a space behind it
abbrev pub head : ℕ → Event → ℕ → List ℕ
head minute event point =
    digit (minute / 1000) ∷ digit (minute / 100) ∷ digit (minute / 10) ∷ digit minute ∷ 32
    ∷ letter_of event ∷ 32
    ∷ digit (point / 10) ∷ digit point ∷ 32 ∷ []

-- of a name the first 16 bytes; a dash for an empty one
abbrev pub shown : List ℕ → List ℕ
shown [] = 45 ∷ []
shown (b ∷ bs) = take 16 (b ∷ bs)

-- the whole line, with its newline
abbrev pub line : ℕ → Event → ℕ → List ℕ → List ℕ
line minute event point name = head minute event point ++ (shown name ++ (10 ∷ []))

-- a text is written to the front of a buffer of at least 27 bytes, and the later bytes stay; a shorter one is refused as it is
abbrev pub Written : List ℕ → List ℕ → Result ℕ Refusal → List ℕ → Type 0
Written before text (Ok n) after = (27 ≤ length before) × (n ≡ length text) × (after ≡ text ++ drop (length text) before)
Written before text (Err e) after = (length before < 27) × (e ≡ ShortBuffer) × (after ≡ before)
