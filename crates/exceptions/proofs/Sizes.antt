-- The layout's numbers, and the word that holds the start.
-- Assumes nothing.
use mathlib.Core.Path.{◌≡◌, refl, sym, ap}
use Prim.Native.Nat.{ℕ}
use mathlib.Core.List.{List}
use lib.ListN.{get_or, take}
use Rattle.exceptions.specs.Layout.{list_size, startWord, words_of, start_of}

pub size_is : list_size ≡ 35886
unfolding list_size
size_is = refl

pub start_word : startWord ≡ 4199
unfolding startWord
start_word = refl

pub start_is : (ws : List ℕ) → get_or ws 4199 0 ≡ start_of ws
unfolding start_of startWord
start_is ws = refl

pub words_are : (list : List ℕ) → take 35886 list ≡ words_of list
words_are list = ap (λ (n : ℕ). take n list) (sym size_is)
