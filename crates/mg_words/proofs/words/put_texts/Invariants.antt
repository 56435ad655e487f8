use Rattle.std.proofs.Common.{◌≡◌, ◌++◌, map, take}
use Rattle.mg_words.proofs.words.put_texts.Given as goal

abbrev pub invariant-loop-text : goal.invariant-loop-text
invariant-loop-text l = l.list.items ≡ l.fn.list.items ++ map (λ text. text.now) (take l.text-index l.texts)
