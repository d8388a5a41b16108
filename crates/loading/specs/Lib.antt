pub mod LaidOut
