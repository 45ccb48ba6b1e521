-- What a call made of an access whose kind is known, it made of the access.
use Rattle.std.proofs.Common.{◌≡◌, ℕ, Option, sym, subst}
use Rattle.cx_names.specs.declared.ObjectNo.{ObjectNo}
use Rattle.cx_items.specs.declared.item.Item.{Item}
use Rattle.cx_asks.specs.declared.ask.Ask.{Ask}
use Rattle.cx_kinds.specs.Sights.{Acted, Keeps, Met, SplitInto}
use Rattle.cx_kinds.specs.Accesses.{Knows}
use Rattle.cx_kinds.specs.declared.access.Access.{Access}

pub acted_in : (o : ObjectNo) (ask : Ask) (a x a' : Access) (i : Option Item) → a ≡ x → Acted o ask (Knows x) (Knows a') i → Acted o ask (Knows a) (Knows a') i
acted_in o ask a x a' i e h = subst (λ (y : Access). Acted o ask (Knows y) (Knows a') i) (sym e) h

pub keeps_in : (a x a' : Access) → a ≡ x → Keeps (Knows x) (Knows a') → Keeps (Knows a) (Knows a')
keeps_in a x a' e h = subst (λ (y : Access). Keeps (Knows y) (Knows a')) (sym e) h

pub met_in : (a x b y b' : Access) → a ≡ x → b ≡ y → Met (Knows x) (Knows y) (Knows b') → Met (Knows a) (Knows b) (Knows b')
met_in a x b y b' e f h = subst (λ (u : Access). Met (Knows u) (Knows b) (Knows b')) (sym e) (subst (λ (u : Access). Met (Knows x) (Knows u) (Knows b')) (sym f) h)

pub split_in : (calls most : ℕ) (a x a' b : Access) → a ≡ x → SplitInto calls most (Knows x) (Knows a') (Knows b) → SplitInto calls most (Knows a) (Knows a') (Knows b)
split_in calls most a x a' b e h = subst (λ (y : Access). SplitInto calls most (Knows y) (Knows a') (Knows b)) (sym e) h
