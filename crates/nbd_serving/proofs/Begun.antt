-- What comes before a session.
use Rattle.std.proofs.Common.{◌≡◌, ◌<◌, ◌≤◌, ◌^◌, ℕ, length, Result, Ok, Err, ap, sym, subst, arith}
use Rattle.std.specs.Prelude.{slice_index_or}
use Rattle.wol_config.specs.Configs.{IsValid, IsValidVolume}
use Rattle.wol_config.specs.declared.config.Config.{Config}
use Rattle.wol_config.specs.declared.config.VolumeConf.{VolumeConf}
use Rattle.nbd_session.specs.declared.ending.Shaken.{Shaken}
use Rattle.nbd_session.specs.declared.ending.Shaken.TheVariants.{Agreed}
use Rattle.nbd_session.specs.Sessions.{CountsFaults}
use Rattle.nbd_session.specs.declared.session.NbdFault.{NbdFault}
use Rattle.nbd_session.proofs.Served.{counts_still}
use Rattle.nbd_serving.specs.Racks.{Begins}
use Rattle.nbd_serving.specs.Wires.{Wire}
use Rattle.nbd_serving.specs.declared.serving.Beginning.{Beginning}
use Rattle.nbd_serving.specs.declared.serving.Beginning.TheVariants as beginning

-- no call failed in what ended without a fault
pub calm_begun : (config : Config) (volume : ℕ) (b : Beginning) (wire wire' : Wire) (e : Shaken) → Begins config volume b wire wire' (Ok e) → (wire'.source_faults ≡ wire.source_faults) × (wire'.sink_faults ≡ wire.sink_faults)
calm_begun config volume beginning.AtOnce wire wire' e (is, same) = (ap (λ (w : Wire). w.source_faults) same, ap (λ (w : Wire). w.sink_faults) same)
calm_begun config volume beginning.Handshake wire wire' e h = h.faults

-- a fault is counted
pub faults_begun : (config : Config) (volume : ℕ) (b : Beginning) (wire wire' : Wire) (f : NbdFault) → Begins config volume b wire wire' (Err f) → CountsFaults {T = Shaken} wire.source_faults wire'.source_faults wire.sink_faults wire'.sink_faults (Err f)
faults_begun config volume beginning.AtOnce wire wire' f (is, same) = absurd (cc)
faults_begun config volume beginning.Handshake wire wire' f h = h.faults

-- the counts of a session behind it
pub counts_behind : {T : Type 0} (config : Config) (volume : ℕ) (b : Beginning) (wire begun wire' : Wire) (answer : Result T NbdFault) → Begins config volume b wire begun (Ok Agreed)
    → CountsFaults begun.source_faults wire'.source_faults begun.sink_faults wire'.sink_faults answer → CountsFaults wire.source_faults wire'.source_faults wire.sink_faults wire'.sink_faults answer
counts_behind config volume b wire begun wire' answer begins counts =
    let calm = calm_begun config volume b wire begun Agreed begins in
    counts_still wire.source_faults begun.source_faults wire'.source_faults wire.sink_faults begun.sink_faults wire'.sink_faults answer calm.0 calm.1 counts

-- a volume of a valid configuration may be agreed on
pub exports : (config : Config) → IsValid config → (volume : ℕ) (v : VolumeConf) → volume < length config.volumes.items → v ≡ slice_index_or config.volumes.items volume v → (length v.name ≤ 4096) × (v.home ≤ 2 ^ 32)
exports config valid volume v less is =
    let P : VolumeConf → Type 0 = λ (w : VolumeConf). IsValidVolume (length config.volumes.items) volume w in
    let ok = subst P (sym is) (valid.volumes volume v less) in
    (omega (arith, ok.name.1), ok.home.1)
