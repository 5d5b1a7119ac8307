-- A port that counts what goes through it.
use Rattle.mg_sealed.specs.declared.counting.CountingFiles.{CountingFiles}

-- the port that does its calls
abbrev pub port_below : {F : Type 0} → CountingFiles F → F
port_below port = port.files
