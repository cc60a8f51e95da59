-- Checks in their order, in two parts. Assumes nothing.
use Rattle.std.proofs.Common.{List, [], ◌∷◌, ◌++◌, inl, inr}
use Rattle.fault.specs.declared.Fault.{Fault}
use Rattle.document.specs.Order.{Test, whole, each, Passed, Refused}

-- no input both passes and is refused
pub not_both : (ts : List Test) (f : Fault) → Passed ts → Refused ts f → ⊥
not_both [] f passed refused = refused
not_both (whole check good ∷ ts) f (ok, passed) (inl (bad, e)) = bad ok
not_both (whole check good ∷ ts) f (ok, passed) (inr (ok', refused)) = not_both ts f passed refused
not_both (each check bad ∷ ts) f (ok, passed) (inl (p, faulty, least, e)) = ok p faulty
not_both (each check bad ∷ ts) f (ok, passed) (inr (ok', refused)) = not_both ts f passed refused

pub passed_append : (ts us : List Test) → Passed ts → Passed us → Passed (ts ++ us)
passed_append [] us x y = y
passed_append (whole check good ∷ ts) us (ok, x) y = (ok, passed_append ts us x y)
passed_append (each check bad ∷ ts) us (ok, x) y = (ok, passed_append ts us x y)

pub refused_front : (ts us : List Test) (f : Fault) → Refused ts f → Refused (ts ++ us) f
refused_front [] us f x = absurd x
refused_front (whole check good ∷ ts) us f (inl x) = inl x
refused_front (whole check good ∷ ts) us f (inr (ok, x)) = inr (ok, refused_front ts us f x)
refused_front (each check bad ∷ ts) us f (inl x) = inl x
refused_front (each check bad ∷ ts) us f (inr (ok, x)) = inr (ok, refused_front ts us f x)

pub refused_back : (ts us : List Test) (f : Fault) → Passed ts → Refused us f → Refused (ts ++ us) f
refused_back [] us f x y = y
refused_back (whole check good ∷ ts) us f (ok, x) y = inr (ok, refused_back ts us f x y)
refused_back (each check bad ∷ ts) us f (ok, x) y = inr (ok, refused_back ts us f x y)

pub refused_rest : (ts us : List Test) (f : Fault) → Passed ts → Refused (ts ++ us) f → Refused us f
refused_rest [] us f x y = y
refused_rest (whole check good ∷ ts) us f (ok, x) (inl (bad, e)) = absurd (bad ok)
refused_rest (whole check good ∷ ts) us f (ok, x) (inr (ok', y)) = refused_rest ts us f x y
refused_rest (each check bad ∷ ts) us f (ok, x) (inl (p, faulty, least, e)) = absurd (ok p faulty)
refused_rest (each check bad ∷ ts) us f (ok, x) (inr (ok', y)) = refused_rest ts us f x y
