-- The faults of certificates.
use Rattle.std.specs.Prelude.{◌≡◌, Result, Ok, Err, Option, Some, None}
use Rattle.step_json.specs.declared.fault.ValueFault.{ValueFault}
use Rattle.step_json.specs.declared.fault.ValueFault.TheVariants as value
use Rattle.certificate.specs.declared.fault.Key.{Key}
use Rattle.certificate.specs.declared.fault.CertFault.{CertFault}
use Rattle.certificate.specs.declared.fault.CertFault.TheVariants.{NotJson, Member, Version, TooDeep, Name, NoMemory}

-- the fault of the member of that key
abbrev pub fault_at : Key → ValueFault → CertFault
fault_at key value.Form = Member key
fault_at key value.TooDeep = TooDeep
fault_at key (value.Name t) = Name t
fault_at key value.NoMemory = NoMemory

infixl 10 ◌>>=◌
-- the next part is read where the first has no fault
abbrev pub ◌>>=◌ : {A B : Type 0} → Result A CertFault → (A → Result B CertFault) → Result B CertFault
(Ok x) >>= f = f x
(Err e) >>= f = Err e

-- what is read of the member of that key
abbrev pub at_key : {A : Type 0} → Key → Result A ValueFault → Result A CertFault
at_key key (Ok x) = Ok x
at_key key (Err fault) = Err (fault_at key fault)

-- what has to be there, or else that fault
abbrev pub or_fault : {A : Type 0} → CertFault → Option A → Result A CertFault
or_fault fault (Some x) = Ok x
or_fault fault None = Err fault

-- what a function answers, seen by `view`, is what reading gives, unless memory ran out
abbrev pub Fails : {A : Type 0} → CertFault → Result A CertFault → Type 0
Fails NotJson read = read ≡ Err NotJson
Fails (Member k) read = read ≡ Err (Member k)
Fails (Version k) read = read ≡ Err (Version k)
Fails TooDeep read = read ≡ Err TooDeep
Fails (Name t) read = read ≡ Err (Name t)
Fails NoMemory read = Unit {0}

-- the answer, seen by `view`, is what reading gives
abbrev pub Gives : {X A : Type 0} → (X → A) → Result X CertFault → Result A CertFault → Type 0
Gives view (Ok x) read = read ≡ Ok (view x)
Gives view (Err e) read = Fails e read
