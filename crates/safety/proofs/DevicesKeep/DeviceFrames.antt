-- What is kept of device contexts under lease is kept where none is added, and no word and no base address changes
use Rattle.safety.proofs.Words.{◌≡◌, ℕ, Some, is_some, refl, Header, Dcbaap, Erstba, Known, device_named, entry_of, DevicesKeep, rules}
use Rattle.safety.proofs.DevicesKeep.AreaFacts.{clean_same}

pub record SameForDevices (k l : Known) : Type 0 where
  pub memory : l.memory ≡ k.memory
  pub soiled : l.soiled ≡ k.soiled
  pub dcbaap : l.register Dcbaap ≡ k.register Dcbaap
  pub erstba : l.register Erstba ≡ k.register Erstba
  pub fewer : (s d : ℕ) → l.device s ≡ Some d → k.device s ≡ Some d

pub entry_same : (k l : Known) (s : ℕ) → l.register Dcbaap ≡ k.register Dcbaap → entry_of l s ≡ entry_of k s
unfolding entry_of
entry_same k l s same = rw same refl

named_same : (k l : Known) (s : ℕ) → l.register Dcbaap ≡ k.register Dcbaap → l.memory ≡ k.memory → device_named l s ≡ device_named k s
unfolding device_named
named_same k l s same memory = rw same (rw memory refl)

module _ (h : Header) (k l : Known) (same : SameForDevices k l) where
  pub devices_same : DevicesKeep h k → DevicesKeep h l
  devices_same keeps s d at = search (rules, entry_same, is_some, named_same, clean_same, keeps s d (same.fewer s d at))
