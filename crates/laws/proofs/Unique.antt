-- A promise that is an equation has one result: two results that meet it are equal. Cited once for each public function. Assumes nothing.
use mathlib.Core.Path.{◌≡◌, sym, ◌∙◌}

pub one_result : {A : Type 0} {x y promised : A} → x ≡ promised → y ≡ promised → x ≡ y
one_result p q = p ∙ sym q
